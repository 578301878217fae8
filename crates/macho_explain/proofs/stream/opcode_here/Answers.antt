use Rattle.std.proofs.Common.{arith, subst}
use Rattle.macho_fields.specs.Bytes.{bytes_of}
use Rattle.macho_explain.specs.Streams.{IsReached, stream_table}
use Rattle.macho_explain.proofs.Wholes.{whole_read}
use Rattle.macho_explain.proofs.stream.opcode_here.Goals as goal

pub returns : goal.returns
returns c =
    let image = bytes_of c.args.sliced.now.held.bytes in
    let found = c.in_ok-table.field-0 in
    let (less, is) = c.in_ok-offset.ensures in
    record {
      whole = whole_read image (stream_table c.args.stream image) c.in_ok-stream_table.field-0 found.table (bytes_of found.bytes) c.in_ok-stream_table.ensures c.in_ok-table.ensures;
      at = omega (arith, less, is);
      reached = subst (λ of. IsReached of (bytes_of found.bytes) c.in_ok-offset.offset c.in_ok-reached.reached) c.opcodes.ensures c.in_ok-reached.ensures;
    }
