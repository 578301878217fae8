use Rattle.std.proofs.Common.{◌≡◌, arith}
use Rattle.std.proofs.lemmas.Nat.{le_or_l, le_or_r}
use Rattle.macho_fields.proofs.NonZeros.{none_in_rest, none_joined}
use Rattle.macho_fields.proofs.bytes.block_from.Goals as goal

pub returns : goal.returns
returns c = λ none.
    let bytes = c.args.bytes.now in
    let a = c.half_block_from-first.result in
    let b = c.half_block_from-second.result in
    let first : a ≡ 0 = omega (arith, le_or_l a b) in
    let second : b ≡ 0 = omega (arith, le_or_r a b) in
    none_joined bytes 0 32 64 (c.half_block_from-first.ensures first) (none_in_rest bytes 32 32 (omega arith) (c.half_block_from-second.ensures second))
