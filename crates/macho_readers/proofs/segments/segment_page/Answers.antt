use Rattle.std.proofs.Common.{ℕ, Contains, sym, subst, rules, tests}
use Rattle.macho_fields.specs.FirstPlace.{IsLeastPlace}
use Rattle.macho_fields.specs.Segment.{all_segments}
use Rattle.std.specs.Option.{option_map}
use Rattle.macho_image.specs.Segment.{SegmentView}
use Rattle.macho_readers.specs.Pages.{page_size}
use Rattle.macho_readers.specs.Segments.{IsOffPage, BreaksSegmentPage}
use Rattle.macho_readers.proofs.Found.{first_segment}
use Rattle.macho_readers.proofs.segments.segment_page.Goals as goal

pub returns : goal.returns
returns c =
    let image = c.args.image.now in
    subst (IsLeastPlace (BreaksSegmentPage image)) (sym c.place_of_segment.ensures)
    (subst (λ (cputype : ℕ). IsLeastPlace (λ place. Contains (all_segments image) place × IsOffPage (page_size cputype) image place) (option_map (λ (s : SegmentView). s.place) c.find.result)) c.arch-cputype.ensures.cpu_type
    (first_segment image c.segments.ensures.opened c.segments.ensures.segments _ (IsOffPage (page_size c.arch-cputype.result.0)) c.find.result c.find.ensures.ran
    (λ s b q k. search (rules, tests))))
