use Rattle.macho_fields.specs.Bytes.{bytes_of}
use Rattle.macho_fields.specs.Universal.{RepeatsEarlierArch}
use Rattle.macho_fields.proofs.Entries.{NoneBelow}
use Rattle.macho_second.proofs.file.fat_duplicate.Given as goal

-- no slice before this one has the architecture of an earlier one
abbrev pub invariant-loop-k : goal.invariant-loop-k
invariant-loop-k l = NoneBelow (RepeatsEarlierArch (bytes_of l.entries.file)) l.k
