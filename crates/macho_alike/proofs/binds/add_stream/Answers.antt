use Rattle.std.proofs.Common.{◌≡◌, ◌+◌, ◌≤◌, ℕ, List, length, sym, ap, ◌∙◌, arith}
use Rattle.macho_fields.specs.Bytes.{bytes_of}
use Rattle.macho_fields.specs.Field.{part}
use Rattle.macho_fields.specs.Symbol.{table_at}
use Rattle.macho_fields.specs.declared.load_command.TableFields.{TableFields}
use Rattle.macho_image.proofs.ReadParts.{length-part}
use Rattle.macho_spans.specs.declared.span.Span.{Span}
use Rattle.macho_tables.specs.Homes.{bytes_of_table}
use Rattle.macho_opcodes.specs.Images.{fields_of}
use Rattle.macho_opcodes.specs.declared.streams.Stream.{Stream}
use Rattle.macho_opcodes.proofs.TableSurveys.{stream_inside, fields_inside}
use Rattle.macho_alike.specs.Binds.{StreamBinds, BindsOf}
use Rattle.macho_alike.proofs.BindLists.{if_ok, on_err, added_same, added_none}
use Rattle.macho_alike.proofs.BindStreams.{binds_of_none, stream_read}
use Rattle.macho_alike.proofs.binds.add_stream.Goals as goal

-- the table that was read is the stream's
is_table : (image : List ℕ) (command : ℕ) (stream : Stream) (fields : TableFields) (table : Span) → fields ≡ fields_of stream → table ≡ bytes_of_table (table_at image command fields)
    → table ≡ bytes_of_table (table_at image command (fields_of stream))
is_table image command stream fields table same is = is ∙ ap (λ (f : TableFields). bytes_of_table (table_at image command f)) same

pub span_of-table-requires-clause-place : goal.span_of-table-requires-clause-place
span_of-table-requires-clause-place c =
    let (place, count) = fields_inside c.args.image.now c.requires.unbroken c.args.command c.requires.info c.args.stream in rw c.fields.ensures place

pub span_of-table-requires-clause-count : goal.span_of-table-requires-clause-count
span_of-table-requires-clause-count c =
    let (place, count) = fields_inside c.args.image.now c.requires.unbroken c.args.command c.requires.info c.args.stream in rw c.fields.ensures count

pub returns-then-table-eq0-clause-added : goal.returns-then-table-eq0-clause-added
returns-then-table-eq0-clause-added c =
    let image = c.args.image.now in
    let same = is_table image c.args.command c.args.stream _ _ c.fields.ensures c.span_of-table.ensures in
    added_none (BindsOf c.args.stream image c.args.command) c.args.binds.now.items
    (binds_of_none c.args.stream image c.args.command (sym (ap (λ (s : Span). s.len) same) ∙ c.if-table-eq0.true))

pub slice-bytes-requires : goal.slice-bytes-requires
slice-bytes-requires c =
    let same = is_table c.args.image.now c.args.command c.args.stream _ _ c.fields.ensures c.span_of-table.ensures in
    let len = ap (λ (s : Span). s.len) same in
    let inside = stream_inside c.args.image.now c.requires.unbroken c.args.command c.requires.info c.args.stream (omega (arith, len, c.if-table-eq0.false)) in
    rw (same, c.bytes.ensures.bytes) inside

pub read_stream-requires : goal.read_stream-requires
read_stream-requires c =
    let same = is_table c.args.image.now c.args.command c.args.stream _ _ c.fields.ensures c.span_of-table.ensures in
    let start = ap (λ (s : Span). s.start) same in
    let len = ap (λ (s : Span). s.len) same in
    let inside = stream_inside c.args.image.now c.requires.unbroken c.args.command c.requires.info c.args.stream (omega (arith, len, c.if-table-eq0.false)) in
    let whole : c.span_of-table.result.start + c.span_of-table.result.len ≤ length (bytes_of c.bytes.result) = rw (same, c.bytes.ensures.bytes) inside in
    let count = ap length c.slice-bytes.ensures ∙ length-part c.span_of-table.result.start c.span_of-table.result.len (bytes_of c.bytes.result) whole in
    omega (arith, count, inside, start, len, c.bytes.ensures.fits)

pub returns-clause-added : goal.returns-clause-added
returns-clause-added c =
    let image = c.args.image.now in
    let table = table_at image c.args.command (fields_of c.args.stream) in
    let same = is_table image c.args.command c.args.stream _ _ c.fields.ensures c.span_of-table.ensures in
    let stream : bytes_of c.slice-bytes.result ≡ part table.0 table.1 image =
    c.slice-bytes.ensures ∙ (ap (part c.span_of-table.result.start c.span_of-table.result.len) c.bytes.ensures.bytes ∙ ap (λ (s : Span). part s.start s.len image) same) in
    let read = stream_read c.args.stream image c.args.command c.span_of-table.result.start (bytes_of c.slice-bytes.result) (ap (λ (s : Span). s.start) same) stream in
    if_ok _ _ c.read_stream.result
    (added_same (StreamBinds c.args.stream c.span_of-table.result.start (bytes_of c.slice-bytes.result)) (BindsOf c.args.stream image c.args.command) c.args.binds.now.items c.read_stream.new.binds.items read)
    c.read_stream.ensures.added

pub returns-clause-memory : goal.returns-clause-memory
returns-clause-memory c =
    let image = c.args.image.now in
    let table = table_at image c.args.command (fields_of c.args.stream) in
    let same = is_table image c.args.command c.args.stream _ _ c.fields.ensures c.span_of-table.ensures in
    let stream : bytes_of c.slice-bytes.result ≡ part table.0 table.1 image =
    c.slice-bytes.ensures ∙ (ap (part c.span_of-table.result.start c.span_of-table.result.len) c.bytes.ensures.bytes ∙ ap (λ (s : Span). part s.start s.len image) same) in
    let read = stream_read c.args.stream image c.args.command c.span_of-table.result.start (bytes_of c.slice-bytes.result) (ap (λ (s : Span). s.start) same) stream in
    on_err _ _ c.read_stream.result (λ (bind, binds). (bind, (read bind).0 binds)) c.read_stream.ensures.memory
