use Rattle.std.proofs.Common.{arith}
use Rattle.macho_explain.proofs.pointers.from_start.Goals as goal

pub returns-in_err-page : goal.returns-in_err-page
returns-in_err-page c =
    rw c.from_residual-in_err-page.ensures (λ has.
    let (page, less, at, some) = has in
    c.in_err-page.ensures page less (omega (arith, at, c.in_ok-offset.ensures)))
