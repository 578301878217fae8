use Rattle.std.proofs.Common.{◌↔◌, ◌<◌, ℕ, List, Any, IsTrue, subst, rules, tests}
use Rattle.macho_spans.specs.Span.{Shares}
use Rattle.macho_spans.specs.declared.span.Span.{Span}
use Rattle.macho_readers.specs.SectionAlone.{mapped_part}
use Rattle.macho_readers.proofs.NamedSections.{sections, any_section}
use Rattle.macho_readers.proofs.section_alone.shares_earlier.Goals as goal

pub returns : goal.returns
returns c =
    let image = c.args.image.now in
    let section = c.args.section.now in
    subst (λ (place : ℕ). IsTrue c.any.result ↔ Any (λ (earlier : ℕ × ℕ). (earlier.1 < place) × Shares (mapped_part image earlier) (mapped_part section.image (section.segment, section.place))) (sections image)) c.place-place.ensures
    (subst (λ (part : Span). IsTrue c.any.result ↔ Any (λ (earlier : ℕ × ℕ). (earlier.1 < c.place-place.result) × Shares (mapped_part image earlier) part) (sections image)) c.mapped_part-part.ensures
    (any_section image c.sections.ensures.opened c.sections.ensures.sections
    (λ (bytes : List ℕ) (earlier : ℕ × ℕ). (earlier.1 < c.place-place.result) × Shares (mapped_part bytes earlier) c.mapped_part-part.result)
    c.any.result c.any.ensures.ran (λ s b q k. search (rules, tests))))
