use Rattle.std.proofs.Common.{◌≡◌, ◌-◌, length}
use Rattle.macho_fields.specs.Bytes.{bytes_of}
use Rattle.macho_fixups.specs.Walks.{writes_from}
use Rattle.macho_fixups.proofs.walk.next_write.Given as goal

-- the steps that were passed write nothing
abbrev pub invariant-loop-step : goal.invariant-loop-step
invariant-loop-step l =
    writes_from l.opcodes l.stream.bytes.now l.fn.start l.fn.before ≡ writes_from l.opcodes l.stream.bytes.now l.place l.walk

abbrev pub decreases-loop-step : goal.decreases-loop-step
decreases-loop-step l = length l.stream.bytes.now - l.place
