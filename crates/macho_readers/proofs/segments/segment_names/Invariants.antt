use Rattle.std.proofs.Common.{◌≡◌, ◌++◌, List, map}
use Rattle.macho_image.specs.Segment.{SegmentView, segment_name}
use Rattle.macho_readers.specs.Names.{number_of, names_of}
use Rattle.macho_readers.proofs.segments.segment_names.Given as goal

-- the names of the segments that were passed are listed
abbrev pub invariant-loop-segment : goal.invariant-loop-segment
invariant-loop-segment l =
    (seen : List SegmentView) × (l.initial.segment-iterator ≡ seen ++ l.segment-iterator)
    × (map names_of l.names.items ≡ map (λ (s : SegmentView). (number_of (segment_name s.image s.place), 0, s.place)) seen)
