use Rattle.macho_fields.specs.Bytes.{bytes_of}
use Rattle.macho_fields.specs.Universal.{OverlapsEarlierSlice}
use Rattle.macho_fields.proofs.Entries.{NoneBelow}
use Rattle.macho_second.proofs.file.fat_overlap.Given as goal

-- no slice before this one shares a place with an earlier one
abbrev pub invariant-loop-k : goal.invariant-loop-k
invariant-loop-k l = NoneBelow (OverlapsEarlierSlice (bytes_of l.entries.file)) l.k
