use Rattle.macho_fields.proofs.Entries.{NoneBelow}
use Rattle.macho_readers.specs.Files.{IsOtherEntry}
use Rattle.macho_readers.proofs.files.fat_header.Given as goal

-- no entry before this one says something else than its slice
abbrev pub invariant-loop-index : goal.invariant-loop-index
invariant-loop-index l = NoneBelow (IsOtherEntry l.verified) l.index
