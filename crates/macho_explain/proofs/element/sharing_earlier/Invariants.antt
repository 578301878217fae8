use Rattle.std.proofs.Common.{◌≡◌, ◌<◌, ℕ, Some, slice_get}
use Rattle.macho_spans.specs.Span.{Shares}
use Rattle.macho_strict.specs.Elements.{elements_of}
use Rattle.macho_strict.specs.declared.elements.Element.{Element}
use Rattle.macho_explain.specs.Elements.{AreFew}
use Rattle.macho_explain.proofs.ElementWalks.{IsPassed}
use Rattle.macho_explain.proofs.element.sharing_earlier.Given as goal

-- no element that was passed shares a byte with this one
abbrev pub invariant-loop-earlier : goal.invariant-loop-earlier
invariant-loop-earlier l =
    (goal.iterator-loop-earlier).can_next l.earlier-iterator × (goal.iterator-loop-earlier).is_finite l.earlier-iterator
    × (AreFew l.image → IsPassed (elements_of l.image) l.earlier-iterator l.before
    × ((j : ℕ) (e : Element) → j < l.before → slice_get (elements_of l.image) j ≡ Some e → ¬ Shares l.element.span e.span))
