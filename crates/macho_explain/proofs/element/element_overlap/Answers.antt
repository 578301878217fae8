use Rattle.std.proofs.Common.{ℕ, List, inl, inr, subst}
use Rattle.macho_explain.specs.Elements.{AreFew, HasConflicting}
use Rattle.macho_explain.proofs.element.element_overlap.Goals as goal

pub returns-in_err-walked : goal.returns-in_err-walked
returns-in_err-walked c =
    rw c.from_residual-in_err-walked.ensures (λ has.
    let (k, (command, listed, from, to)) = has.1 in
    elim c.in_err-walked.ensures [ inl none ↦ none k command listed (from, to) | inr many ↦ has.0 many ])

pub returns-in_err-conflict : goal.returns-in_err-conflict
returns-in_err-conflict c =
    let place = c.args.sliced.now.place in
    rw c.from_residual-in_err-conflict.ensures (λ has.
    let (opens, few, conflicting) = has.2 in
    subst (λ (i : List ℕ). AreFew i → ¬ HasConflicting i place) c.in_ok-image.ensures.1 c.in_err-conflict.ensures few conflicting)
