use Rattle.std.proofs.Common.{◌≡◌, ◌<◌, ℕ, List, Any, Contains, sym, subst, rules, tests}
use Rattle.macho_fields.specs.FirstPlace.{IsLeastPlace}
use Rattle.macho_fields.specs.Segment.{all_segments}
use Rattle.macho_image.specs.Segment.{segment_name}
use Rattle.macho_readers.specs.Segments.{HasEarlierName}
use Rattle.macho_readers.proofs.Found.{first_segment}
use Rattle.macho_readers.proofs.segments.first_repeated.Goals as goal

pub returns : goal.returns
returns c =
    let image = c.args.image.now in
    subst (IsLeastPlace (λ place. Contains (all_segments image) place × HasEarlierName image place)) (sym c.place_of_segment.ensures)
    (first_segment image c.segments.ensures.opened c.segments.ensures.segments _
    (λ (bytes : List ℕ) (segment : ℕ). Any (λ earlier. (earlier < segment) × (segment_name image earlier ≡ segment_name bytes segment)) (all_segments image))
    c.find.result c.find.ensures.ran (λ s b q k. search (rules, tests)))
