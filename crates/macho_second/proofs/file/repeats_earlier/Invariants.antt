use Rattle.std.proofs.Common.{◌≡◌}
use Rattle.macho_fields.specs.Bytes.{bytes_of}
use Rattle.macho_fields.specs.Universal.{entry_slice}
use Rattle.macho_fields.proofs.Entries.{NoneBelow}
use Rattle.macho_second.proofs.file.repeats_earlier.Given as goal

-- no entry before this one has the architecture of the later one
abbrev pub invariant-loop-k : goal.invariant-loop-k
invariant-loop-k l = NoneBelow (λ i. (entry_slice (bytes_of l.entries.file) i).arch ≡ (entry_slice (bytes_of l.entries.file) l.later).arch) l.k
