use Rattle.std.proofs.Common.{arith}
use Rattle.macho_fields.specs.Bytes.{bytes_of}
use Rattle.macho_fields.proofs.Entries.{ends_inside}
use Rattle.macho_second.proofs.entries.Entries.bytes.Goals as goal

pub read_part-requires : goal.read_part-requires
read_part-requires c =
    let inside = ends_inside (bytes_of c.args.self.file) c.args.k c.args.self.universal c.requires.entry c.requires.inside in
    omega (arith, inside, c.span.ensures.start, c.span.ensures.len)
