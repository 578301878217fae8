use Rattle.std.proofs.Common.{sym, subst}
use Rattle.macho_fields.specs.FirstPlace.{IsLeastPlace}
use Rattle.macho_tables.proofs.Places.{least_joined}
use Rattle.macho_readers.specs.Order.{ShiftsAt, ShiftsFixupsAt, BreaksNumberShift}
use Rattle.macho_readers.proofs.order.number_shift.Goals as goal

pub returns : goal.returns
returns c =
    let image = c.args.image.now in
    subst (IsLeastPlace (BreaksNumberShift image)) (sym c.lesser.ensures)
    (least_joined (ShiftsAt image) (ShiftsFixupsAt image) c.first_shifting-shifting.result c.first_shifted-shifted.result c.first_shifting-shifting.ensures c.first_shifted-shifted.ensures)
