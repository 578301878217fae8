use Rattle.std.proofs.Common.{◌≡◌, ◌++◌, List, true}
use Rattle.macho_image.specs.Segment.{SegmentView}
use Rattle.macho_tables.specs.Segments.{is_writable}
use Rattle.macho_readers.proofs.Lasts.{IsLastIn}
use Rattle.macho_readers.proofs.order.last_writable.Given as goal

-- the last of the segments that were passed
abbrev pub invariant-loop-segment : goal.invariant-loop-segment
invariant-loop-segment l =
    (seen : List SegmentView) × (l.initial.segment-iterator ≡ seen ++ l.segment-iterator)
    × IsLastIn (λ (s : SegmentView). s.place) (λ (s : SegmentView). is_writable s.image s.place ≡ true) seen l.last
