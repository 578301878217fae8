use Rattle.std.proofs.Common.{◌<◌, ℕ}
use Rattle.std.specs.Prelude.{IsSomeAnd, slice_get}
use Rattle.macho_explain.specs.Alike.{symbols_in, IsOther}
use Rattle.macho_explain.proofs.definition.other_definition.Given as goal

-- no symbol that was passed says something else of the name
abbrev pub invariant-loop-earlier : goal.invariant-loop-earlier
invariant-loop-earlier l =
    (k : ℕ) → k < l.earlier → ¬ IsSomeAnd (slice_get (symbols_in l.image) k) (IsOther l.image l.symbol)
