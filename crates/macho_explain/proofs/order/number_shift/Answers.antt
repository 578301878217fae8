use Rattle.std.proofs.Common.{inl, inr}
use Rattle.macho_explain.proofs.order.number_shift.Goals as goal

pub returns-in_err-shift : goal.returns-in_err-shift
returns-in_err-shift c =
    rw c.from_residual-in_err-shift.ensures (λ has. elim has [
      | inl segment ↦ c.in_err-shift.ensures segment.0.0.0 (inl ((segment.0.1, segment.0.2), segment.1))
      | inr library ↦ c.in_err-shift.ensures library.0.0.0 (inr ((λ (k, at). library.0.1 (library.0.0, k, at)), library.1))
    ])

pub returns : goal.returns
returns c = rw c.shows.ensures (c.in_ok-at.ensures.0, c.in_ok-shift.ensures)
