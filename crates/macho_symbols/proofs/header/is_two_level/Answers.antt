use Rattle.std.proofs.Common.{length, ap, arith}
use Rattle.macho_rules.proofs.Judged.{opened_facts}
use Rattle.macho_symbols.proofs.header.is_two_level.Goals as goal

pub read_u32-requires : goal.read_u32-requires
read_u32-requires c =
    let inside = (opened_facts c.args.image.now c.bytes.ensures.opened).inside in
    let same = ap length c.bytes.ensures.bytes in omega (arith, inside, same)
