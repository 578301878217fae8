use Rattle.std.proofs.Common.{◌≡◌, ◌∷◌, take}
use Rattle.macho_strict.specs.Verdict.{slice_spans}
use Rattle.macho_strict.proofs.stray.span_list.Given as goal

-- the table and the slices before this one were added
abbrev pub invariant-loop-index : goal.invariant-loop-index
invariant-loop-index l = l.list.spans ≡ l.fn.table ∷ take l.index (slice_spans l.verified)
