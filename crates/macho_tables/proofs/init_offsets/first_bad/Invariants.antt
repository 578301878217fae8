use Rattle.std.proofs.Common.{◌<◌, ℕ}
use Rattle.macho_tables.specs.InitOffsets.{IsBadOffset}
use Rattle.macho_tables.specs.RunBytes.{AreRunBytes}
use Rattle.macho_tables.proofs.init_offsets.first_bad.Given as goal

-- the offsets before it are not bad
abbrev pub invariant-loop-index : goal.invariant-loop-index
invariant-loop-index l = record {
  none : (k : ℕ) → k < l.index → ¬ IsBadOffset l.image l.section.place k;
  runs : AreRunBytes l.image l.runs;
}
