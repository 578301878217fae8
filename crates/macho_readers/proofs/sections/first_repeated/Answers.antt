use Rattle.std.proofs.Common.{◌≡◌, ◌<◌, ℕ, List, Any, sym, subst, rules, tests}
use Rattle.macho_fields.specs.FirstPlace.{IsLeastPlace}
use Rattle.macho_image.specs.Segment.{section_name}
use Rattle.macho_readers.specs.Sections.{AtSection, HasEarlierNames, segment_name_of}
use Rattle.macho_readers.proofs.NamedSections.{sections, each_section, first_section}
use Rattle.macho_readers.proofs.sections.first_repeated.Goals as goal

pub find-requires-clause-callable : goal.find-requires-clause-callable
find-requires-clause-callable c = each_section c.args.image.now c.sections.ensures.opened c.sections.ensures.sections (λ s q k. search (rules, tests)) (λ s inside. search rules)

pub returns : goal.returns
returns c =
    let image = c.args.image.now in
    subst (IsLeastPlace (AtSection image (HasEarlierNames image))) (sym c.place_of_section.ensures)
    (first_section image c.sections.ensures.opened c.sections.ensures.sections _
    (λ (bytes : List ℕ) (section : ℕ × ℕ). Any (λ (earlier : ℕ × ℕ). (earlier.1 < section.1) × (section_name image earlier.1 ≡ section_name bytes section.1) × (segment_name_of image earlier.1 ≡ segment_name_of bytes section.1)) (sections image))
    c.find.result c.find.ensures.ran (λ s b q k. search (rules, tests)))
