use Rattle.std.proofs.Common.{arith}
use Rattle.macho_alike.proofs.AgreedClaims.{all_agree}
use Rattle.macho_alike.proofs.claims.agree.Goals as goal

pub returns : goal.returns
returns c = λ _. all_agree c.args.claims.now c.requires (λ k d less. c.loop-index.invariant k d (omega (arith, less, c.loop-index-test.false)))
