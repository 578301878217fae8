use Rattle.std.proofs.Common.{◌≡◌, map}
use Rattle.macho_strict.specs.Passed.{occupied}
use Rattle.macho_tables.proofs.SegmentMemory.{view_memory}
use Rattle.macho_tables.proofs.segment_memory.memory_list.Given as goal

-- the addresses of each yielded segment that has some were added
abbrev pub invariant-loop-segment : goal.invariant-loop-segment
invariant-loop-segment l = l.list.spans ≡ occupied (map (view_memory l.extent) l.yielded)
