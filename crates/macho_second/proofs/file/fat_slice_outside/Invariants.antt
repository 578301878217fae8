use Rattle.macho_fields.specs.Bytes.{bytes_of}
use Rattle.macho_fields.specs.Universal.{IsSliceOutside}
use Rattle.macho_fields.proofs.Entries.{NoneBelow}
use Rattle.macho_second.proofs.file.fat_slice_outside.Given as goal

-- no slice before this one ends past the file
abbrev pub invariant-loop-k : goal.invariant-loop-k
invariant-loop-k l = NoneBelow (IsSliceOutside (bytes_of l.entries.file)) l.k
