use Rattle.std.proofs.Common.{◌≤◌}
use Rattle.macho_alike.specs.Bounds.{WereGathered}
use Rattle.macho_alike.proofs.ChainBounds.{OfSegment}
use Rattle.macho_alike.proofs.Gathered.{OfBelow}
use Rattle.macho_tables.proofs.SegmentWalks.{ArePassed}
use Rattle.macho_alike.proofs.bounds.add_segments.Given as goal

-- the pointers of the segments that were passed are added
abbrev pub invariant-loop-segment : goal.invariant-loop-segment
invariant-loop-segment l =
    (goal.iterator-loop-segment).can_next l.segment-iterator × (goal.iterator-loop-segment).is_finite l.segment-iterator
    × ArePassed l.initial.segment-iterator l.segment-iterator l.index × (l.index ≤ l.count)
    × WereGathered (OfBelow (OfSegment l.image l.chains.start l.chains.bytes.bytes.now l.chains.header) l.index) l.initial.bounds.items l.bounds.items
