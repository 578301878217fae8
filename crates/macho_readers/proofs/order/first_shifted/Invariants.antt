use Rattle.macho_readers.proofs.Shifted.{AreCounted}
use Rattle.macho_readers.proofs.order.first_shifted.Given as goal

-- the numbers are of the segments that were passed, and none of these is shifted
abbrev pub invariant-loop-segment : goal.invariant-loop-segment
invariant-loop-segment l = AreCounted l.image l.segment-iterator l.number l.run
