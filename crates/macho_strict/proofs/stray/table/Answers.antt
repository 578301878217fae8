use Rattle.std.proofs.Common.{ap, arith}
use Rattle.macho_spans.specs.declared.span.Span.{Span}
use Rattle.macho_fields.specs.Bytes.{bytes_of}
use Rattle.macho_strict.proofs.SliceSpans.{table_found}
use Rattle.macho_strict.proofs.stray.table.Goals as goal

pub overflow_mul-result : goal.overflow_mul-result
overflow_mul-result c =
    let (universal, end, most) = table_found c.args.verified.now (bytes_of c.bytes-file.result) c.bytes-file.ensures.bytes c.bytes-file.ensures.unbroken c.slice_count.result c.in_ok-entry_size.entry_size c.len.result c.slice_count.ensures c.in_ok-entry_size.ensures c.len.ensures.count in
    omega (arith, end, most, c.len.type_inv)

pub overflow_add-result : goal.overflow_add-result
overflow_add-result c =
    let (universal, end, most) = table_found c.args.verified.now (bytes_of c.bytes-file.result) c.bytes-file.ensures.bytes c.bytes-file.ensures.unbroken c.slice_count.result c.in_ok-entry_size.entry_size c.len.result c.slice_count.ensures c.in_ok-entry_size.ensures c.len.ensures.count in
    omega (arith, end, most, c.len.type_inv)

pub returns : goal.returns
returns c =
    let (universal, end, most) = table_found c.args.verified.now (bytes_of c.bytes-file.result) c.bytes-file.ensures.bytes c.bytes-file.ensures.unbroken c.slice_count.result c.in_ok-entry_size.entry_size c.len.result c.slice_count.ensures c.in_ok-entry_size.ensures c.len.ensures.count in
    (universal, ap (λ n. let span : Span = record { start = 0; len = n } in span) end)
