use Rattle.macho_fields.specs.Bytes.{bytes_of}
use Rattle.macho_fields.specs.Universal.{IsSliceMisaligned}
use Rattle.macho_fields.proofs.Entries.{NoneBelow}
use Rattle.macho_second.proofs.file.fat_align.Given as goal

-- each offset before this one is a multiple of its alignment
abbrev pub invariant-loop-k : goal.invariant-loop-k
invariant-loop-k l = NoneBelow (IsSliceMisaligned (bytes_of l.entries.file)) l.k
