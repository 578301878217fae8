use Rattle.macho_fields.specs.Bytes.{bytes_of}
use Rattle.macho_fields.proofs.Magics.{DecidesForeign}
use Rattle.macho_second.proofs.file.fat_slice_magic.Given as goal

-- the least place of the slices gone over that are not images
abbrev pub invariant-loop-k : goal.invariant-loop-k
invariant-loop-k l = DecidesForeign (bytes_of l.entries.file) l.k l.least
