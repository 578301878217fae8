use Rattle.std.proofs.Common.{drop}
use Rattle.macho_tables.proofs.Digits.{IsReading}
use Rattle.macho_tables.proofs.numbers.Encoded.read.Given as goal

-- the bytes before the index are digits of the number
abbrev pub invariant-loop-index : goal.invariant-loop-index
invariant-loop-index l = IsReading (drop l.place l.bytes.bytes.now) l.index l.value l.scale
