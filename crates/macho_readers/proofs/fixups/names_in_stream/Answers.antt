use Rattle.std.proofs.Common.{◌≡◌, ℕ, List, sym, ap, ◌∙◌, arith}
use Rattle.macho_fields.specs.Bytes.{bytes_of}
use Rattle.macho_fields.specs.Field.{part}
use Rattle.macho_fields.specs.Symbol.{table_at}
use Rattle.macho_fields.specs.declared.load_command.TableFields.{TableFields}
use Rattle.macho_spans.specs.declared.span.Span.{Span}
use Rattle.macho_tables.specs.Homes.{bytes_of_table}
use Rattle.macho_opcodes.specs.Images.{fields_of}
use Rattle.macho_opcodes.specs.declared.streams.Stream.{Stream}
use Rattle.macho_opcodes.proofs.TableSurveys.{stream_inside, fields_inside}
use Rattle.macho_readers.proofs.NamedFixups.{stream_read, stream_empty}
use Rattle.macho_readers.proofs.fixups.names_in_stream.Goals as goal

-- the table that was read is the stream's
is_table : (image : List ℕ) (command : ℕ) (stream : Stream) (fields : TableFields) (table : Span) → fields ≡ fields_of stream → table ≡ bytes_of_table (table_at image command fields)
    → table ≡ bytes_of_table (table_at image command (fields_of stream))
is_table image command stream fields table same is = is ∙ ap (λ (f : TableFields). bytes_of_table (table_at image command f)) same

pub span_of-table-requires : goal.span_of-table-requires
span_of-table-requires c =
    let (place, count) = fields_inside c.args.image.now c.requires.unbroken c.args.command c.requires.info c.args.stream in
    rw c.fields.ensures (record { place = place; count = count })

pub returns-then-table-eq0 : goal.returns-then-table-eq0
returns-then-table-eq0 c =
    let image = c.args.image.now in
    let same = is_table image c.args.command c.args.stream _ _ c.fields.ensures c.span_of-table.ensures in
    stream_empty c.args.stream image c.args.command c.args.number (sym (ap (λ (s : Span). s.len) same) ∙ c.if-table-eq0.true)

pub slice-bytes-requires : goal.slice-bytes-requires
slice-bytes-requires c =
    let same = is_table c.args.image.now c.args.command c.args.stream _ _ c.fields.ensures c.span_of-table.ensures in
    let len = ap (λ (s : Span). s.len) same in
    let inside = stream_inside c.args.image.now c.requires.unbroken c.args.command c.requires.info c.args.stream (omega (arith, len, c.if-table-eq0.false)) in
    rw (same, c.bytes.ensures.bytes) inside

pub returns : goal.returns
returns c =
    let image = c.args.image.now in
    let table = table_at image c.args.command (fields_of c.args.stream) in
    let same = is_table image c.args.command c.args.stream _ _ c.fields.ensures c.span_of-table.ensures in
    let stream : bytes_of c.slice-bytes.result ≡ part table.0 table.1 image =
    c.slice-bytes.ensures ∙ (ap (part c.span_of-table.result.start c.span_of-table.result.len) c.bytes.ensures.bytes ∙ ap (λ (s : Span). part s.start s.len image) same) in
    stream_read c.args.stream image c.args.command c.args.number c.opcodes.result (bytes_of c.slice-bytes.result) c.stream_names.result c.opcodes.ensures stream c.stream_names.ensures
