use Rattle.std.proofs.Common.{◌≡◌}
use Rattle.std.specs.Prelude.{find}
use Rattle.macho_rows.specs.Address.{supplies}
use Rattle.macho_rows.proofs.address.segment_with.Given as goal

-- no segment before this one has the address
abbrev pub invariant-loop-segment : goal.invariant-loop-segment
invariant-loop-segment l =
    (goal.iterator-loop-segment).can_next l.segment-iterator
    × (goal.iterator-loop-segment).is_finite l.segment-iterator
    × (find (supplies l.address) l.initial.segment-iterator ≡ find (supplies l.address) l.segment-iterator)
