use Rattle.std.proofs.Common.{inl, inr}
use Rattle.macho_explain.proofs.command.repeated.Goals as goal

pub returns-in_err-earlier-clause-none : goal.returns-in_err-earlier-clause-none
returns-in_err-earlier-clause-none c =
    rw c.from_residual.ensures (elim c.in_err-earlier.ensures [
      | inl none ↦ inl (λ k command less at. none k command at)
      | inr uncounted ↦ inr uncounted
    ])
