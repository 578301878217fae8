use Rattle.std.proofs.Common.{◌≡◌, ℕ, List, sym, ap, ◌∙◌, arith}
use Rattle.macho_fields.specs.LoadCommands.{linkedit_data_table}
use Rattle.macho_fields.specs.Symbol.{table_at}
use Rattle.macho_fields.specs.declared.load_command.TableFields.{TableFields}
use Rattle.macho_spans.specs.declared.span.Span.{Span}
use Rattle.macho_tables.specs.Homes.{bytes_of_table}
use Rattle.macho_tables.proofs.DataTables.{data_fields_inside, data_inside}
use Rattle.macho_tables.proofs.data_table.data_table.Goals as goal

pub span_of-table-requires-clause-place : goal.span_of-table-requires-clause-place
span_of-table-requires-clause-place c =
    rw c.bounded_at.ensures (data_fields_inside c.args.image.now c.args.cmd c.requires.cmd c.in_ok-command.command (sym c.first_place.ensures ∙ c.in_ok-command.was) c.requires.unbroken).0

pub span_of-table-requires-clause-count : goal.span_of-table-requires-clause-count
span_of-table-requires-clause-count c =
    rw c.bounded_at.ensures (data_fields_inside c.args.image.now c.args.cmd c.requires.cmd c.in_ok-command.command (sym c.first_place.ensures ∙ c.in_ok-command.was) c.requires.unbroken).1

-- the table that was read is the table that the command names
is_table : (image : List ℕ) (command : ℕ) (fields : TableFields) (table : Span) → fields ≡ linkedit_data_table → table ≡ bytes_of_table (table_at image command fields)
    → table ≡ bytes_of_table (table_at image command linkedit_data_table)
is_table image command fields table same is = is ∙ ap (λ (f : TableFields). bytes_of_table (table_at image command f)) same

pub returns-then-table-gt0-clause-inside : goal.returns-then-table-gt0-clause-inside
returns-then-table-gt0-clause-inside c =
    let same = is_table c.args.image.now c.in_ok-command.command _ _ c.bounded_at.ensures c.span_of-table.ensures in
    let len = ap (λ (s : Span). s.len) same in
    let inside = data_inside c.args.image.now c.args.cmd c.requires.cmd c.in_ok-command.command (sym c.first_place.ensures ∙ c.in_ok-command.was) c.requires.unbroken (omega (arith, len, c.if-table-gt0.true)) in
    rw same inside
