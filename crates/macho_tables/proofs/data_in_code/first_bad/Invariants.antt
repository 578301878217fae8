use Rattle.std.proofs.Common.{◌<◌, List, ℕ}
use Rattle.macho_tables.specs.CodeParts.{AreCodeParts}
use Rattle.macho_tables.specs.DataInCode.{entry_at, entry_place, IsBadEntry}
use Rattle.macho_tables.proofs.data_in_code.first_bad.Given as goal

-- the entries before it are not bad
abbrev pub invariant-loop-index : goal.invariant-loop-index
invariant-loop-index l =
    (image : List ℕ) → AreCodeParts image l.code → (k : ℕ) → k < l.index → ¬ IsBadEntry image (entry_at l.table.bytes.now (entry_place k))
