use Rattle.std.proofs.Common.{arith}
use Rattle.macho_fields.proofs.NonZeros.{block_more}
use Rattle.macho_fields.proofs.bytes.zeros_by_half_blocks.Goals as goal

pub loop-index-preserved : goal.loop-index-preserved
loop-index-preserved c =
    let zero = block_more c.args.bytes.now c.loop-index.index 32 (omega arith) c.loop-index.invariant.zero (c.half_block_from.ensures c.if-half_block_from-eq0.true) in
    record { within = omega arith; zero = zero }
