use Rattle.std.proofs.Common.{true, refl, rules, tests}
use Rattle.std.proofs.lemmas.Iterator.{YieldsList-from_slice}
use Rattle.macho_image.specs.Command.{command_of}
use Rattle.macho_tables.specs.Homes.{bytes_of_table}
use Rattle.macho_spans.specs.Span.{Shares}
use Rattle.macho_tables.proofs.Found.{each_table, any_table}
use Rattle.macho_tables.proofs.homes.shares_range.Goals as goal

pub any-requires-clause-callable : goal.any-requires-clause-callable
any-requires-clause-callable c =
    each_table c.args.image.now (command_of c.args.command.now) c.requires (λ cmd. true) c.table_fields.result.now c.table_fields.ensures (YieldsList-from_slice c.table_fields.result.now (cc))
    (λ y q k. search (rules, tests)) (λ y inside. search rules)

pub returns : goal.returns
returns c =
    let some =
    any_table c.args.image.now (command_of c.args.command.now) c.requires (λ cmd. true) c.table_fields.result.now c.table_fields.ensures (YieldsList-from_slice c.table_fields.result.now (cc)) (λ range. Shares (bytes_of_table range) c.args.table) c.any.result c.any.ensures.ran
    (λ y b q k. (search (rules, tests), (λ is. search (rules, tests), λ has. search (rules, tests))))
    in (λ is. (some.0 is).1, λ any. some.1 (refl, any))
