use Rattle.std.proofs.Common.{◌≡◌, ◌+◌, ◌*◌, ◌≤◌, length, map, max}
use Rattle.macho_rules.specs.Mapped.{memory_at}
use Rattle.macho_rules.proofs.segments.mapped_memory.Given as goal

-- the addresses belong to the segments that were yielded
abbrev pub invariant-loop-segment : goal.invariant-loop-segment
invariant-loop-segment l =
    record { spans : l.list.spans ≡ map (λ s. memory_at s.image s.place) l.yielded; room : l.list.capacity ≤ max l.count (2 * length l.list.spans + 4) }
