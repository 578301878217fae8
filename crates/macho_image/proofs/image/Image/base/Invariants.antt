use Rattle.std.proofs.Common.{◌≡◌}
use Rattle.macho_image.proofs.Entries.{base_among}
use Rattle.macho_image.proofs.image.Image.base.Given as goal

-- no segment before this one is the base
abbrev pub invariant-loop-segment : goal.invariant-loop-segment
invariant-loop-segment l =
    (goal.iterator-loop-segment).can_next l.segment-iterator
    × (goal.iterator-loop-segment).is_finite l.segment-iterator
    × (base_among l.initial.segment-iterator ≡ base_among l.segment-iterator)
