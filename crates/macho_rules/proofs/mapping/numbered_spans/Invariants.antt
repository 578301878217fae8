use Rattle.std.proofs.Common.{◌≡◌, map}
use Rattle.macho_rules.specs.Mapped.{numbered_memory}
use Rattle.macho_rules.proofs.mapping.numbered_spans.Given as goal

-- the pairs belong to the segments that were yielded
abbrev pub invariant-loop-segment : goal.invariant-loop-segment
invariant-loop-segment l = l.pairs.items ≡ numbered_memory l.image 0 (map (λ s. s.place) l.yielded)
