use Rattle.std.proofs.Common.{◌≡◌, ◌-◌, ◌^◌, min, length}
use Rattle.macho_rules.proofs.segments.mapped_count.Given as goal

-- the segments that were yielded are counted
abbrev pub invariant-loop-segment : goal.invariant-loop-segment
invariant-loop-segment l = l.count ≡ min (length l.yielded) (2 ^ 64 - 1)
