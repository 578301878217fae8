use Rattle.std.proofs.Common.{◌-◌, length}
use Rattle.macho_readers.proofs.NamedFixups.{IsPassed}
use Rattle.macho_readers.proofs.fixups.stream_names.Given as goal

-- no opcode before the place sets the segment
abbrev pub invariant-loop-place : goal.invariant-loop-place
invariant-loop-place l = IsPassed l.number l.opcodes l.stream.bytes.now l.place

abbrev pub decreases-loop-place : goal.decreases-loop-place
decreases-loop-place l = length l.stream.bytes.now - l.place
