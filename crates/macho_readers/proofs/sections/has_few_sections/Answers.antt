use Rattle.std.proofs.Common.{◌↔◌, ◌≤◌, ℕ, IsTrue, length, ◌∙◌, ap, subst}
use Rattle.std.proofs.lemmas.Iterator.Consumers.{nth_from_yields_List}
use Rattle.std.proofs.lemmas.List.{length-map}
use Rattle.macho_image.specs.Segment.{SectionView, section_at}
use Rattle.macho_readers.specs.declared.names.TheConstants.{FEW_NAMES}
use Rattle.macho_readers.proofs.NamedSections.{sections, sections_yield}
use Rattle.macho_readers.proofs.SameNames.{few}
use Rattle.macho_readers.proofs.sections.has_few_sections.Goals as goal

pub returns : goal.returns
returns c =
    let image = c.args.image.now in
    subst (λ (n : ℕ). IsTrue c.is_none.result ↔ (n ≤ FEW_NAMES)) (ap length c.sections.ensures.sections ∙ length-map (sections image) (section_at image))
    (few (λ (s : SectionView). s) c.nth.result c.sections.result FEW_NAMES c.is_none.result (nth_from_yields_List c.nth.result _ FEW_NAMES c.nth.ensures.ran (sections_yield image c.sections.ensures.opened c.sections.ensures.sections)) c.is_none.ensures)
