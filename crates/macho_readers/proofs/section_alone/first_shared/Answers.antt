use Rattle.std.proofs.Common.{sym, subst, ◌∙◌, ap, slice_get}
use Rattle.std.proofs.lemmas.Iterator.Adapters.{option_map_id}
use Rattle.std.proofs.lemmas.Iterator.Consumers.{nth_from_yields_List}
use Rattle.std.proofs.lemmas.Option.{slice_get-map}
use Rattle.macho_fields.specs.FirstPlace.{IsLeastPlace}
use Rattle.macho_image.specs.Segment.{section_at}
use Rattle.macho_rules.proofs.Verdicts.{unbroken_opened}
use Rattle.macho_readers.specs.SectionAlone.{SharesMapped}
use Rattle.macho_readers.specs.Sections.{AtSection}
use Rattle.macho_readers.proofs.NamedSections.{sections, sections_yield}
use Rattle.macho_readers.proofs.SectionAlone.{least_shared, none_shared}
use Rattle.macho_readers.proofs.section_alone.first_shared.Goals as goal

pub returns-in_default : goal.returns-in_default
returns-in_default c = record {
  least = none_shared c.args.image.now (unbroken_opened c.args.image.now c.requires) c.in_ok-parts.parts.spans c.in_ok-parts.ensures c.in_default.ensures;
  memory = tt;
}

pub returns-clause-least : goal.returns-clause-least
returns-clause-least c =
    let image = c.args.image.now in
    let found = sym (option_map_id c.nth.result) ∙ (nth_from_yields_List c.nth.result _ c.in-Some.index c.nth.ensures.ran (sections_yield image c.sections.ensures.opened c.sections.ensures.sections)
    ∙ (ap (λ these. slice_get these c.in-Some.index) c.sections.ensures.sections ∙ slice_get-map (section_at image) (sections image) c.in-Some.index)) in
    subst (IsLeastPlace (AtSection image (SharesMapped image))) (sym c.place_of_section.ensures)
    (least_shared image c.sections.ensures.opened c.in-Some.index c.nth.result found c.in_ok-parts.parts.spans c.in_ok-parts.ensures c.in-Some.ensures)
