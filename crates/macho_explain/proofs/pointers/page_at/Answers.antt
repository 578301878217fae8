use Rattle.std.proofs.Common.{arith}
use Rattle.macho_explain.proofs.pointers.page_at.Goals as goal

pub returns-in_err-page : goal.returns-in_err-page
returns-in_err-page c =
    rw c.from_residual-in_err-page.ensures (λ page less at.
    c.in_err-page.ensures page (omega (arith, less, c.from.ensures)) (omega (arith, at, c.in_ok-first.ensures)))
