use Rattle.std.proofs.Common.{ℕ, ◌<◌}
use Rattle.macho_fields.specs.Bytes.{bytes_of}
use Rattle.macho_explain.specs.Entries.{HasTable, IsForeignAt}
use Rattle.macho_explain.proofs.entries.fat_slice_magic.Given as goal

-- no slice that was passed is such a one at the place
abbrev pub invariant-loop-index : goal.invariant-loop-index
invariant-loop-index l =
    HasTable (bytes_of l.file) → (k : ℕ) → k < l.index → ¬ IsForeignAt (bytes_of l.file) k l.place
