use Rattle.std.proofs.Common.{◌≡◌, ◌+◌, ◌≤◌, ◌<◌, ◌^◌, ℕ, List, length, refl, sym, ap, ◌∙◌, arith}
use Rattle.macho_fields.specs.Bytes.{bytes_of}
use Rattle.macho_fields.specs.Field.{part}
use Rattle.macho_fields.specs.Symbol.{table_at}
use Rattle.macho_fields.specs.declared.load_command.TableFields.{TableFields}
use Rattle.macho_image.proofs.ReadParts.{length-part}
use Rattle.macho_spans.specs.declared.span.Span.{Span}
use Rattle.macho_tables.specs.Homes.{bytes_of_table}
use Rattle.macho_opcodes.specs.Images.{fields_of}
use Rattle.macho_opcodes.specs.declared.streams.Stream.{Stream}
use Rattle.macho_opcodes.proofs.TableSurveys.{stream_inside, fields_inside}
use Rattle.macho_alike.specs.Binds.{StreamBinds, BindsOf}
use Rattle.macho_alike.specs.LookUps.{SomeLooksUp}
use Rattle.macho_alike.proofs.BindLists.{if_ok, on_err}
use Rattle.macho_alike.proofs.BindStreams.{binds_of_none, stream_read}
use Rattle.macho_alike.proofs.NotedLookUps.{noted_none, noted_alike}
use Rattle.macho_alike.proofs.imports.note_stream.Goals as goal

-- the table that was read is the stream's
is_table : (image : List ℕ) (command : ℕ) (stream : Stream) (fields : TableFields) (table : Span) → fields ≡ fields_of stream → table ≡ bytes_of_table (table_at image command fields)
    → table ≡ bytes_of_table (table_at image command (fields_of stream))
is_table image command stream fields table same is = is ∙ ap (λ (f : TableFields). bytes_of_table (table_at image command f)) same

pub span_of-table-requires-clause-place : goal.span_of-table-requires-clause-place
span_of-table-requires-clause-place g c =
    let (place, count) = fields_inside c.args.image.now c.requires.unbroken c.args.command c.requires.info c.args.stream in rw c.fields.ensures place

pub span_of-table-requires-clause-count : goal.span_of-table-requires-clause-count
span_of-table-requires-clause-count g c =
    let (place, count) = fields_inside c.args.image.now c.requires.unbroken c.args.command c.requires.info c.args.stream in rw c.fields.ensures count

pub returns-then-table-eq0-clause-noted : goal.returns-then-table-eq0-clause-noted
returns-then-table-eq0-clause-noted g c =
    let image = c.args.image.now in
    let same = is_table image c.args.command c.args.stream _ _ c.fields.ensures c.span_of-table.ensures in
    let none = binds_of_none c.args.stream image c.args.command (sym (ap (λ (s : Span). s.len) same) ∙ c.if-table-eq0.true) in
    noted_none g.N.Notes.are_of (SomeLooksUp image (BindsOf c.args.stream image c.args.command)) c.args.notes.now (λ name from (bind, is, looks). none bind is)

-- its bytes lie in the image
inside : (image bytes : List ℕ) (table span : Span) → span ≡ table → bytes ≡ image → table.start + table.len ≤ length image → length image < 2 ^ 64
    → (span.start + length (part span.start span.len bytes) ≤ length bytes) × (span.start + length (part span.start span.len bytes) < 2 ^ 64)
inside image bytes table span same read fits near =
    let start : span.start ≡ table.start = ap (λ (s : Span). s.start) same in
    let len : span.len ≡ table.len = ap (λ (s : Span). s.len) same in
    let long : length bytes ≡ length image = ap length read in
    let whole : span.start + span.len ≤ length bytes = omega (arith, start, len, long, fits) in
    let count = length-part span.start span.len bytes whole in (omega (arith, count, whole), omega (arith, count, whole, long, near))

pub slice-requires : goal.slice-requires
slice-requires g c =
    let same = is_table c.args.image.now c.args.command c.args.stream _ _ c.fields.ensures c.span_of-table.ensures in
    let len = ap (λ (s : Span). s.len) same in
    let inside = stream_inside c.args.image.now c.requires.unbroken c.args.command c.requires.info c.args.stream (omega (arith, len, c.if-table-eq0.false)) in
    rw (same, c.bytes-bytes.ensures.bytes) inside

pub note_steps-requires : goal.note_steps-requires
note_steps-requires g c =
    let same = is_table c.args.image.now c.args.command c.args.stream _ _ c.fields.ensures c.span_of-table.ensures in
    let len = ap (λ (s : Span). s.len) same in
    let fits = stream_inside c.args.image.now c.requires.unbroken c.args.command c.requires.info c.args.stream (omega (arith, len, c.if-table-eq0.false)) in
    let (within, near) = inside c.args.image.now (bytes_of c.bytes-bytes.result) _ c.span_of-table.result same c.bytes-bytes.ensures.bytes fits c.bytes-bytes.ensures.fits in
    λ k. ((refl, tt), (rw c.slice.ensures within, rw c.slice.ensures near))

pub returns-clause-noted : goal.returns-clause-noted
returns-clause-noted g c =
    let image = c.args.image.now in
    let table = table_at image c.args.command (fields_of c.args.stream) in
    let same = is_table image c.args.command c.args.stream _ _ c.fields.ensures c.span_of-table.ensures in
    let stream : bytes_of c.slice.result ≡ part table.0 table.1 image =
    c.slice.ensures ∙ (ap (part c.span_of-table.result.start c.span_of-table.result.len) c.bytes-bytes.ensures.bytes ∙ ap (λ (s : Span). part s.start s.len image) same) in
    let read = stream_read c.args.stream image c.args.command c.span_of-table.result.start (bytes_of c.slice.result) (ap (λ (s : Span). s.start) same) stream in
    if_ok _ _ c.note_steps.result
    (noted_alike g.N.Notes.are_of (SomeLooksUp image (StreamBinds c.args.stream c.span_of-table.result.start (bytes_of c.slice.result))) (SomeLooksUp image (BindsOf c.args.stream image c.args.command))
    c.args.notes.now c.note_steps.new.notes (λ name from. (λ (bind, binds, looks). (bind, (read bind).0 binds, looks), λ (bind, binds, looks). (bind, (read bind).1 binds, looks))))
    (rw c.bytes-bytes.ensures.bytes at c.note_steps.ensures.noted)

pub returns-clause-memory : goal.returns-clause-memory
returns-clause-memory g c =
    let image = c.args.image.now in
    let table = table_at image c.args.command (fields_of c.args.stream) in
    let same = is_table image c.args.command c.args.stream _ _ c.fields.ensures c.span_of-table.ensures in
    let stream : bytes_of c.slice.result ≡ part table.0 table.1 image =
    c.slice.ensures ∙ (ap (part c.span_of-table.result.start c.span_of-table.result.len) c.bytes-bytes.ensures.bytes ∙ ap (λ (s : Span). part s.start s.len image) same) in
    let read = stream_read c.args.stream image c.args.command c.span_of-table.result.start (bytes_of c.slice.result) (ap (λ (s : Span). s.start) same) stream in
    on_err _ _ c.note_steps.result (λ (name, from, (bind, binds, looks)). (name, from, (bind, (read bind).0 binds, looks))) (rw c.bytes-bytes.ensures.bytes at c.note_steps.ensures.memory)
