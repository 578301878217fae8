use Rattle.std.proofs.Common.{◌≡◌, ◌++◌, map}
use Rattle.macho_image.specs.Segment.{SegmentView}
use Rattle.macho_alike.proofs.bounds.segment_places.Given as goal

-- the places of the segments before are listed
abbrev pub invariant-loop-segment : goal.invariant-loop-segment
invariant-loop-segment l =
    (goal.iterator-loop-segment).can_next l.segment-iterator × (goal.iterator-loop-segment).is_finite l.segment-iterator
    × (l.places.items ++ map (λ (s : SegmentView). s.place) l.segment-iterator ≡ map (λ (s : SegmentView). s.place) l.initial.segment-iterator)
