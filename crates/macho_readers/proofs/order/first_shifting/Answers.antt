use Rattle.std.proofs.Common.{sym, subst, rules, tests}
use Rattle.macho_fields.specs.FirstPlace.{IsLeastPlace}
use Rattle.macho_image.specs.Command.{CommandView}
use Rattle.macho_tables.proofs.Found.{each_command, first_command}
use Rattle.macho_readers.specs.Order.{ShiftsBefore, ShiftsAt}
use Rattle.macho_readers.proofs.Lasts.{shifts_same}
use Rattle.macho_readers.proofs.order.first_shifting.Goals as goal

pub find-requires-clause-callable : goal.find-requires-clause-callable
find-requires-clause-callable c = each_command c.args.image.now c.commands.ensures.opened c.commands.ensures.commands (λ x q k. search (rules, tests)) (λ x is. search rules)

pub returns : goal.returns
returns c =
    let image = c.args.image.now in
    subst (IsLeastPlace (ShiftsAt image)) (sym c.place_of.ensures)
    (shifts_same image c.last_writable-writable.result c.last_eager-eager.result _ c.last_writable-writable.ensures c.last_eager-eager.ensures
    (first_command image c.commands.ensures.opened c.commands.ensures.commands _ (λ (v : CommandView). ShiftsBefore c.last_writable-writable.result c.last_eager-eager.result image v.place) c.find.result c.find.ensures.ran
    (λ y b q k. search (rules, tests))))
