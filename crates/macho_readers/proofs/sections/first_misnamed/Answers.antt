use Rattle.std.proofs.Common.{sym, subst, rules, tests}
use Rattle.macho_fields.specs.FirstPlace.{IsLeastPlace}
use Rattle.macho_readers.specs.Sections.{AtSection, IsMisnamed}
use Rattle.macho_readers.proofs.NamedSections.{each_section, first_section}
use Rattle.macho_readers.proofs.sections.first_misnamed.Goals as goal

pub find-requires-clause-callable : goal.find-requires-clause-callable
find-requires-clause-callable c = each_section c.args.image.now c.sections.ensures.opened c.sections.ensures.sections (λ s q k. search (rules, tests)) (λ s inside. search rules)

pub returns : goal.returns
returns c =
    let image = c.args.image.now in
    subst (IsLeastPlace (AtSection image (IsMisnamed image))) (sym c.place_of_section.ensures)
    (first_section image c.sections.ensures.opened c.sections.ensures.sections _ IsMisnamed c.find.result c.find.ensures.ran (λ s b q k. search (rules, tests)))
