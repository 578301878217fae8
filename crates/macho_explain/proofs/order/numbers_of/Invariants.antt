use Rattle.macho_explain.proofs.Numbered.{AreCounted}
use Rattle.macho_explain.proofs.order.numbers_of.Given as goal

-- the numbers are of the segments that were passed
abbrev pub invariant-loop-segment : goal.invariant-loop-segment
invariant-loop-segment l = AreCounted l.image l.segment-iterator l.place l.number l.run
