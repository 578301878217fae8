use Rattle.macho_readers.proofs.NameTails.{Passed}
use Rattle.macho_readers.proofs.names.has_tail.Given as goal

-- whether the bytes that were passed have the end of the name
abbrev pub invariant-loop-byte : goal.invariant-loop-byte
invariant-loop-byte l = Passed l.byte-items l.byte-index l.is_ended
