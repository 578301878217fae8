use Rattle.macho_tables.proofs.Roomy.{AreRoomed}
use Rattle.macho_tables.proofs.limits.rooms_of.Given as goal

-- what was found is of the segments that were passed
abbrev pub invariant-loop-segment : goal.invariant-loop-segment
invariant-loop-segment l =
    (goal.iterator-loop-segment).can_next l.segment-iterator × (goal.iterator-loop-segment).is_finite l.segment-iterator
    × AreRoomed l.initial.segment-iterator l.segment-iterator l.sizes l.index l.budget
