use Rattle.std.proofs.Common.{rules, tests}
use Rattle.std.proofs.lemmas.Iterator.{YieldsList-from_slice}
use Rattle.macho_image.specs.Command.{command_of}
use Rattle.macho_tables.specs.Kinds.{names_linked_data}
use Rattle.macho_tables.specs.Homes.{IsHomeless}
use Rattle.macho_tables.proofs.Found.{each_table, any_table}
use Rattle.macho_tables.proofs.homes.has_homeless.Goals as goal

pub any-requires-clause-callable : goal.any-requires-clause-callable
any-requires-clause-callable c =
    each_table c.args.image.now (command_of c.args.command.now) c.requires names_linked_data c.linked_fields.result.now c.linked_fields.ensures (YieldsList-from_slice c.linked_fields.result.now (cc))
    (λ y q k. search (rules, tests)) (λ y inside. search rules)

pub returns : goal.returns
returns c =
    any_table c.args.image.now (command_of c.args.command.now) c.requires names_linked_data c.linked_fields.result.now c.linked_fields.ensures (YieldsList-from_slice c.linked_fields.result.now (cc)) (IsHomeless c.args.image.now) c.any.result c.any.ensures.ran
    (λ y b q k. search (rules, tests))
