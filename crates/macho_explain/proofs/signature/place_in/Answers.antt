use Rattle.std.proofs.Common.{arith}
use Rattle.macho_explain.proofs.signature.place_in.Goals as goal

pub returns-in_err-index : goal.returns-in_err-index
returns-in_err-index c =
    let (from, is) = c.in_ok-offset.ensures in
    let some = c.if-offset-eq0.false in
    rw c.from_residual-in_err-index.ensures (λ at. omega (arith, at, from, is, some), λ k less long at. c.in_err-index.ensures k less long (omega (arith, at, from, is)))
