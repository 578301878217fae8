use Rattle.std.proofs.Common.{◌-◌}
use Rattle.macho_fields.specs.Bytes.{bytes_of}
use Rattle.macho_fields.proofs.Strings.{string_ends, string_of_part}
use Rattle.macho_fields.proofs.bytes.Bytes.string_in.Goals as goal

pub returns-clause-string : goal.returns-clause-string
returns-clause-string c =
    let bytes = bytes_of c.args.self in
    let start = c.args.span.start in
    let end = c.in_ok-end.end in
    let (held, zero) = c.in_ok-end.ensures.zero in
    string_of_part bytes start (end - start) c.bytes_at.result (string_ends bytes start end held.0 zero c.in_ok-end.ensures.first) c.bytes_at.ensures.bytes
