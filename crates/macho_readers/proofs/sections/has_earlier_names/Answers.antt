use Rattle.std.proofs.Common.{◌≡◌, ◌↔◌, ◌<◌, ℕ, List, Any, IsTrue, subst, rules, tests}
use Rattle.macho_image.specs.Segment.{section_name}
use Rattle.macho_readers.specs.Sections.{segment_name_of}
use Rattle.macho_readers.proofs.NamedSections.{sections, each_section, any_section}
use Rattle.macho_readers.proofs.sections.has_earlier_names.Goals as goal

pub any-requires-clause-callable : goal.any-requires-clause-callable
any-requires-clause-callable c = each_section c.args.image.now c.sections.ensures.opened c.sections.ensures.sections (λ s q k. search (rules, tests)) (λ s inside. search rules)

pub returns : goal.returns
returns c =
    let image = c.args.image.now in
    let section = c.args.section.now in
    subst (λ (name : List ℕ). IsTrue c.any.result ↔ Any (λ (earlier : ℕ × ℕ). (earlier.1 < section.place) × (section_name image earlier.1 ≡ section_name section.image section.place) × (segment_name_of image earlier.1 ≡ name)) (sections image)) c.segment_name-segment.ensures
    (any_section image c.sections.ensures.opened c.sections.ensures.sections
    (λ (bytes : List ℕ) (earlier : ℕ × ℕ). (earlier.1 < section.place) × (section_name bytes earlier.1 ≡ section_name section.image section.place) × (segment_name_of bytes earlier.1 ≡ c.segment_name-segment.result.now))
    c.any.result c.any.ensures.ran (λ s b q k. search (rules, tests)))
