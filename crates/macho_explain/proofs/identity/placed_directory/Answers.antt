use Rattle.std.proofs.Common.{arith, refl}
use Rattle.macho_explain.proofs.identity.placed_directory.Goals as goal

pub returns-in_err-blob-clause-none : goal.returns-in_err-blob-clause-none
returns-in_err-blob-clause-none c =
    rw c.from_residual.ensures (λ (good, less, has). c.in_err-blob.ensures.none (good.superblob, less, λ j below. good.blobs j (omega (arith, below, less))))

pub returns-in_err-fields-clause-none : goal.returns-in_err-fields-clause-none
returns-in_err-fields-clause-none c =
    rw c.from_residual-in_err-fields.ensures (λ (good, less, has). c.in_err-fields.ensures.none c.args.index c.in_ok-blob.ensures.blob has)

pub returns-clause-some : goal.returns-clause-some
returns-clause-some c = (refl, c.in_ok-fields.ensures.some c.args.index c.in_ok-blob.ensures.blob)
