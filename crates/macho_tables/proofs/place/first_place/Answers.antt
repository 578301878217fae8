use Rattle.std.proofs.Common.{◌∙◌, rules, tests}
use Rattle.macho_tables.proofs.Found.{place_tabled}
use Rattle.macho_tables.proofs.Tabled.{some_fields}
use Rattle.macho_tables.proofs.place.first_place.Goals as goal

pub returns : goal.returns
returns c =
    let names = some_fields c.table_fields.result.now c.args.cmd c.table_fields.ensures c.if-is_empty.ensures in
    let commands = c.commands_with_tables-commands.ensures in
    c.place_of-2.ensures ∙ place_tabled c.args.image.now commands.opened commands.tables _ c.args.cmd names c.find.result c.find.ensures.ran (λ x b q k. search (rules, tests))
