use Rattle.std.proofs.Common.{◌≡◌, map}
use Rattle.macho_rules.specs.Mapped.{memory_at}
use Rattle.macho_readers.proofs.section_alone.mapped_memory.Given as goal

-- the addresses belong to the segments that were yielded
abbrev pub invariant-loop-segment : goal.invariant-loop-segment
invariant-loop-segment l = l.list.spans ≡ map (λ s. memory_at s.image s.place) l.yielded
