use Rattle.std.proofs.Common.{sym, subst, rules, tests}
use Rattle.macho_fields.specs.FirstPlace.{IsLeastPlace}
use Rattle.macho_readers.specs.SectionAlone.{IsHiding}
use Rattle.macho_readers.specs.Sections.{AtSection}
use Rattle.macho_readers.proofs.NamedSections.{first_section}
use Rattle.macho_readers.proofs.section_alone.first_hiding.Goals as goal

pub returns : goal.returns
returns c =
    let image = c.args.image.now in
    subst (IsLeastPlace (AtSection image (IsHiding c.args.end image))) (sym c.place_of_section.ensures)
    (first_section image c.sections.ensures.opened c.sections.ensures.sections _ (IsHiding c.args.end) c.find.result c.find.ensures.ran (λ s b q k. search (rules, tests)))
