use Rattle.std.proofs.Common.{◌≡◌, ◌-◌, ◌^◌, min, length}
use Rattle.macho_strict.proofs.overlap.count_of.Given as goal

-- the elements that were yielded are counted
abbrev pub invariant-loop-element : goal.invariant-loop-element
invariant-loop-element g l = l.count ≡ min (length l.yielded) (2 ^ 64 - 1)
