use Rattle.macho_fields.specs.Bytes.{bytes_of}
use Rattle.macho_fields.specs.Universal.{IsSliceInTable}
use Rattle.macho_fields.proofs.Entries.{NoneBelow}
use Rattle.macho_second.proofs.file.fat_slice_in_table.Given as goal

-- no slice before this one begins in the table
abbrev pub invariant-loop-k : goal.invariant-loop-k
invariant-loop-k l = NoneBelow (IsSliceInTable (bytes_of l.entries.file)) l.k
