use Rattle.std.proofs.Common.{sym, subst, rules, tests}
use Rattle.macho_fields.specs.FirstPlace.{IsLeastPlace}
use Rattle.macho_image.specs.Command.{CommandView}
use Rattle.macho_tables.specs.Homes.{HasLost, BreaksTableHome}
use Rattle.macho_tables.proofs.Found.{each_tabled, first_tabled_with}
use Rattle.macho_tables.proofs.Tabled.{lost_named}
use Rattle.macho_tables.proofs.homes.table_home.Goals as goal

pub find-requires-clause-callable : goal.find-requires-clause-callable
find-requires-clause-callable c = each_tabled c.args.image.now c.commands_with_tables.ensures.opened c.commands_with_tables.ensures.tables (λ x q k. search (rules, tests)) (λ x is. search rules)

pub returns : goal.returns
returns c =
    subst (IsLeastPlace (BreaksTableHome c.args.image.now)) (sym c.place_of.ensures)
    (first_tabled_with c.args.image.now c.commands_with_tables.ensures.opened c.commands_with_tables.ensures.tables (λ (v : CommandView). HasLost c.args.image.now v.place)
    (λ p has here. lost_named c.args.image.now p here) _ c.find.result c.find.ensures.ran
    (λ y b q k. search (rules, tests)))
