use Rattle.std.proofs.Common.{lit<, sym, subst, rules, tests}
use Rattle.macho_image.specs.Command.{CommandView}
use Rattle.macho_tables.specs.Homes.{Encrypts}
use Rattle.macho_tables.proofs.Found.{each_tabled, any_tabled}
use Rattle.macho_tables.proofs.Tabled.{NamesTables}
use Rattle.macho_tables.proofs.homes.is_encrypted.Goals as goal

pub any-requires-clause-callable : goal.any-requires-clause-callable
any-requires-clause-callable c = each_tabled c.args.image.now c.commands_with_tables.ensures.opened c.commands_with_tables.ensures.tables (λ x q k. search (rules, tests)) (λ x is. search rules)

pub returns : goal.returns
returns c =
    any_tabled c.args.image.now c.commands_with_tables.ensures.opened c.commands_with_tables.ensures.tables (λ (v : CommandView). Encrypts c.args.table c.args.image.now v.place)
    (λ p has here. subst NamesTables (sym here.0) (lit< tt)) c.any.result c.any.ensures.ran
    (λ x b q k. search (rules, tests))
