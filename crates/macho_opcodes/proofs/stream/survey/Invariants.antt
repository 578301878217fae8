use Rattle.std.proofs.Common.{◌-◌, length}
use Rattle.macho_opcodes.proofs.StreamWalks.{IsWalked}
use Rattle.macho_opcodes.proofs.stream.survey.Given as goal

-- each rule is noted where it is broken before the place
abbrev pub invariant-loop-place : goal.invariant-loop-place
invariant-loop-place l = IsWalked l.opcodes l.stream.bytes.now l.limits l.place l.cursor l.totals.pointers l.totals.names l.survey

abbrev pub decreases-loop-place : goal.decreases-loop-place
decreases-loop-place l = length l.stream.bytes.now - l.place
