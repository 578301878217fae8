use Rattle.std.proofs.Common.{◌≡◌, length}
use Rattle.macho_image.specs.Mapped.{mapped_among}
use Rattle.macho_image.proofs.mapped.MappedSegmentsIterator.next.Given as goal

-- no mapped segment was passed
abbrev pub invariant-loop-segment : goal.invariant-loop-segment
invariant-loop-segment l = mapped_among l.initial.self-inside.segments ≡ mapped_among l.self-inside.segments

abbrev pub decreases-loop-segment : goal.decreases-loop-segment
decreases-loop-segment l = length l.self-inside.segments
