use Rattle.std.proofs.Common.{arith}
use Rattle.macho_fields.proofs.NonZeros.{none_of_four, none_in_rest, none_joined}
use Rattle.macho_fields.proofs.bytes.large_block_from.Goals as goal

pub returns : goal.returns
returns c = λ none.
    let bytes = c.args.bytes.now in
    let (first, second, third, fourth) = none_of_four c.block_from-first.result c.block_from-second.result c.block_from-third.result c.block_from-fourth.result none in
    none_joined bytes 0 64 256 (c.block_from-first.ensures first)
    (none_joined bytes 64 128 256 (none_in_rest bytes 64 64 (omega arith) (c.block_from-second.ensures second))
    (none_joined bytes 128 192 256 (none_in_rest bytes 128 64 (omega arith) (c.block_from-third.ensures third))
    (none_in_rest bytes 192 64 (omega arith) (c.block_from-fourth.ensures fourth))))
