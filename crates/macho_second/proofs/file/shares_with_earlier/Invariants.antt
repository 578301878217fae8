use Rattle.macho_fields.specs.Bytes.{bytes_of}
use Rattle.macho_fields.specs.Universal.{SharePlace, entry_slice}
use Rattle.macho_fields.proofs.Entries.{NoneBelow}
use Rattle.macho_second.proofs.file.shares_with_earlier.Given as goal

-- no slice before this one shares a place with the later one
abbrev pub invariant-loop-k : goal.invariant-loop-k
invariant-loop-k l = NoneBelow (λ i. SharePlace (entry_slice (bytes_of l.entries.file) i) (entry_slice (bytes_of l.entries.file) l.later)) l.k
