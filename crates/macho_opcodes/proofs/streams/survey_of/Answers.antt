use Rattle.std.proofs.Common.{◌≡◌, ◌+◌, ◌≤◌, ℕ, List, length, sym, ap, ◌∙◌, subst, arith}
use Rattle.macho_fields.specs.Bytes.{bytes_of}
use Rattle.macho_fields.specs.Field.{part}
use Rattle.macho_fields.specs.Symbol.{table_at}
use Rattle.macho_fields.specs.declared.load_command.TableFields.{TableFields}
use Rattle.macho_image.proofs.ReadParts.{length-part}
use Rattle.macho_spans.specs.declared.span.Span.{Span}
use Rattle.macho_tables.specs.Homes.{bytes_of_table}
use Rattle.macho_opcodes.specs.Images.{opcodes_of, fields_of, moved, AreLeast, InStream}
use Rattle.macho_opcodes.specs.Streams.{IsStreamSurvey}
use Rattle.macho_opcodes.specs.declared.step.Opcodes.{Opcodes}
use Rattle.macho_opcodes.specs.declared.streams.Stream.{Stream}
use Rattle.macho_opcodes.proofs.TableSurveys.{survey_fits, least_in_table, none_in_table, stream_inside, fields_inside}
use Rattle.macho_opcodes.proofs.streams.survey_of.Goals as goal

-- the table that was read is the stream's
is_table : (image : List ℕ) (command : ℕ) (stream : Stream) (fields : TableFields) (table : Span) → fields ≡ fields_of stream → table ≡ bytes_of_table (table_at image command fields)
    → table ≡ bytes_of_table (table_at image command (fields_of stream))
is_table image command stream fields table same is = is ∙ ap (λ (f : TableFields). bytes_of_table (table_at image command f)) same

pub span_of-table-requires : goal.span_of-table-requires
span_of-table-requires c =
    let (place, count) = fields_inside c.args.image.now c.requires.unbroken c.args.command c.requires.info c.args.stream in
    rw c.fields.ensures (record { place = place; count = count })

pub returns-then-table-eq0 : goal.returns-then-table-eq0
returns-then-table-eq0 c =
    let image = c.args.image.now in
    let same = is_table image c.args.command c.args.stream _ _ c.fields.ensures c.span_of-table.ensures in
    let least = none_in_table image (opcodes_of c.args.stream) (table_at image c.args.command (fields_of c.args.stream)) (sym (ap (λ (s : Span). s.len) same) ∙ c.if-table-eq0.true) in
    subst (AreLeast (InStream c.args.stream image c.args.command)) (sym c.unbroken.ensures) least

pub slice-bytes-requires : goal.slice-bytes-requires
slice-bytes-requires c =
    let same = is_table c.args.image.now c.args.command c.args.stream _ _ c.fields.ensures c.span_of-table.ensures in
    let len = ap (λ (s : Span). s.len) same in
    let inside = stream_inside c.args.image.now c.requires.unbroken c.args.command c.requires.info c.args.stream (omega (arith, len, c.if-table-eq0.false)) in
    rw (same, c.bytes.ensures.bytes) inside

pub moved-requires : goal.moved-requires
moved-requires c =
    let same = is_table c.args.image.now c.args.command c.args.stream _ _ c.fields.ensures c.span_of-table.ensures in
    let start = ap (λ (s : Span). s.start) same in
    let len = ap (λ (s : Span). s.len) same in
    let inside = stream_inside c.args.image.now c.requires.unbroken c.args.command c.requires.info c.args.stream (omega (arith, len, c.if-table-eq0.false)) in
    let whole : c.span_of-table.result.start + c.span_of-table.result.len ≤ length (bytes_of c.bytes.result) = rw (same, c.bytes.ensures.bytes) inside in
    let count = ap length c.slice-bytes.ensures ∙ length-part c.span_of-table.result.start c.span_of-table.result.len (bytes_of c.bytes.result) whole in
    survey_fits c.opcodes.result (bytes_of c.slice-bytes.result) c.args.limits.now c.survey.result c.span_of-table.result.start c.survey.ensures
    (omega (arith, count, inside, start, len, c.bytes.ensures.fits))

pub returns : goal.returns
returns c =
    let image = c.args.image.now in
    let table = table_at image c.args.command (fields_of c.args.stream) in
    let same = is_table image c.args.command c.args.stream _ _ c.fields.ensures c.span_of-table.ensures in
    let stream : bytes_of c.slice-bytes.result ≡ part table.0 table.1 image =
    c.slice-bytes.ensures ∙ (ap (part c.span_of-table.result.start c.span_of-table.result.len) c.bytes.ensures.bytes ∙ ap (λ (s : Span). part s.start s.len image) same) in
    let of_bytes = subst (λ (of : Opcodes). IsStreamSurvey of (bytes_of c.slice-bytes.result) c.args.limits.now c.survey.result) c.opcodes.ensures c.survey.ensures in
    let are = subst (λ (bytes : List ℕ). IsStreamSurvey (opcodes_of c.args.stream) bytes c.args.limits.now c.survey.result) stream of_bytes in
    let least = least_in_table image (opcodes_of c.args.stream) table c.args.limits.now c.requires.rooms c.requires.libraries c.requires.budget c.survey.result are in
    subst (AreLeast (InStream c.args.stream image c.args.command)) (sym (c.moved.ensures ∙ ap (λ (s : Span). moved s.start c.survey.result) same)) least
