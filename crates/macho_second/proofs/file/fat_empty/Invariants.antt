use Rattle.macho_fields.specs.Bytes.{bytes_of}
use Rattle.macho_fields.proofs.Entries.{NoneBelow}
use Rattle.macho_fields.proofs.Magics.{IsRead}
use Rattle.macho_second.proofs.file.fat_empty.Given as goal

-- no slice before this one is read
abbrev pub invariant-loop-k : goal.invariant-loop-k
invariant-loop-k l = NoneBelow (IsRead (bytes_of l.entries.file)) l.k
