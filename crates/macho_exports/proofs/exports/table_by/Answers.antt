use Rattle.std.proofs.Common.{◌∙◌, ap}
use Rattle.macho_fields.specs.Symbol.{table_at}
use Rattle.macho_fields.specs.declared.load_command.TableFields.{TableFields}
use Rattle.macho_exports.specs.Exports.{some_bytes}
use Rattle.macho_tables.specs.Homes.{bytes_of_table}
use Rattle.macho_exports.proofs.exports.table_by.Goals as goal

pub span_of-requires-clause-place : goal.span_of-requires-clause-place
span_of-requires-clause-place c = rw c.bounded_at.ensures c.requires.start

pub span_of-requires-clause-count : goal.span_of-requires-clause-count
span_of-requires-clause-count c = rw c.bounded_at.ensures c.requires.size

pub returns : goal.returns
returns c =
    c.some_bytes.ensures
    ∙ ap some_bytes (c.span_of.ensures ∙ ap (λ (fields : TableFields). bytes_of_table (table_at c.args.image.now c.args.command fields)) c.bounded_at.ensures)
