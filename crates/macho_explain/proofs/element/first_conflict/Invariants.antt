use Rattle.std.proofs.Common.{◌≡◌, ◌<◌, ℕ, Some, slice_get}
use Rattle.macho_strict.specs.Elements.{elements_of}
use Rattle.macho_strict.specs.declared.elements.Element.{Element}
use Rattle.macho_explain.specs.Elements.{AreFew, IsConflicting}
use Rattle.macho_explain.proofs.ElementWalks.{IsPassed}
use Rattle.macho_explain.proofs.element.first_conflict.Given as goal

-- no element that was passed is described at the place and has a conflict
abbrev pub invariant-loop-element : goal.invariant-loop-element
invariant-loop-element l =
    (goal.iterator-loop-element).can_next l.element-iterator × (goal.iterator-loop-element).is_finite l.element-iterator
    × (AreFew l.image → IsPassed (elements_of l.image) l.element-iterator l.index
    × ((j : ℕ) (e : Element) → j < l.index → slice_get (elements_of l.image) j ≡ Some e
    → ¬ ((e.described ≡ l.place) × IsConflicting l.image j e)))
