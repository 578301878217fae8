use Rattle.std.proofs.Common.{◌<◌, ℕ, List, Any, sym, subst, rules, tests}
use Rattle.macho_fields.specs.FirstPlace.{IsLeastPlace}
use Rattle.macho_spans.specs.Span.{Shares}
use Rattle.macho_readers.specs.SectionAlone.{mapped_part, SharesMapped}
use Rattle.macho_readers.specs.Sections.{AtSection}
use Rattle.macho_readers.proofs.NamedSections.{sections, first_section}
use Rattle.macho_readers.proofs.section_alone.first_sharing.Goals as goal

pub returns : goal.returns
returns c =
    let image = c.args.image.now in
    subst (IsLeastPlace (AtSection image (SharesMapped image))) (sym c.place_of_section.ensures)
    (first_section image c.sections.ensures.opened c.sections.ensures.sections _
    (λ (bytes : List ℕ) (section : ℕ × ℕ). Any (λ (earlier : ℕ × ℕ). (earlier.1 < section.1) × Shares (mapped_part image earlier) (mapped_part bytes section)) (sections image))
    c.find.result c.find.ensures.ran (λ s b q k. search (rules, tests)))
