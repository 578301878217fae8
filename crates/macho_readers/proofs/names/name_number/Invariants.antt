use Rattle.macho_readers.proofs.NameNumbers.{Passed}
use Rattle.macho_readers.proofs.names.name_number.Given as goal

-- the number of the bytes that were passed
abbrev pub invariant-loop-byte : goal.invariant-loop-byte
invariant-loop-byte l = Passed l.byte-items l.byte-index l.number
