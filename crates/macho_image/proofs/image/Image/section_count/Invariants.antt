use Rattle.std.proofs.Common.{◌≡◌, ◌+◌}
use Rattle.macho_image.proofs.HeldSegments.{counted}
use Rattle.macho_image.proofs.image.Image.section_count.Given as goal

-- the sections of the segments before this one are counted
abbrev pub invariant-loop-segment : goal.invariant-loop-segment
invariant-loop-segment l =
    (goal.iterator-loop-segment).can_next l.segment-iterator
    × (goal.iterator-loop-segment).is_finite l.segment-iterator
    × (l.count + counted l.segment-iterator ≡ counted l.initial.segment-iterator)
