use Rattle.std.proofs.Common.{◌<◌, subst, arith}
use Rattle.macho_signature.specs.declared.superblob.Superblob.{Superblob}
use Rattle.macho_explain.proofs.seal.first_in_slot.Goals as goal

pub returns-in_err-blob-clause-none : goal.returns-in_err-blob-clause-none
returns-in_err-blob-clause-none c =
    let listed = subst (λ (s : Superblob). c.loop-index.index < s.count) c.in_ok-index-end.ensures.1 c.loop-index-test.true in
    rw c.from_residual-in_err-blob.ensures (λ good j less same. c.in_err-blob.ensures.none (good.superblob, listed, λ i below. good.blobs i (omega (arith, below, listed))))
