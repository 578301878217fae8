use Rattle.std.proofs.Common.{length, ap, arith}
use Rattle.macho_rows.proofs.Counts.{header_inside}
use Rattle.macho_rows.proofs.image.flags.Goals as goal

pub read_u32-requires : goal.read_u32-requires
read_u32-requires c = omega (arith, header_inside c.args.image.now c.bytes.ensures.opened, ap length c.bytes.ensures.bytes)
