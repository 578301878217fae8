use Rattle.macho_chains.proofs.ChainStarts.{AreWalked}
use Rattle.macho_chains.proofs.chain_starts.first_with_bad_starts.Given as goal

-- no starts of the segments that were passed are bad
abbrev pub invariant-loop-segment : goal.invariant-loop-segment
invariant-loop-segment l =
    (goal.iterator-loop-segment).can_next l.segment-iterator × (goal.iterator-loop-segment).is_finite l.segment-iterator
    × AreWalked l.image l.chains.bytes.bytes.now l.chains.header l.initial.segment-iterator l.segment-iterator l.count l.index l.reach
