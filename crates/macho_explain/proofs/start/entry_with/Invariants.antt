use Rattle.std.proofs.Common.{◌<◌, ℕ}
use Rattle.macho_spans.specs.Span.{Holds}
use Rattle.macho_tables.specs.DataInCode.{entry_at, entry_place, bytes_of_entry}
use Rattle.macho_explain.proofs.start.entry_with.Given as goal

-- no entry that was passed has the byte
abbrev pub invariant-loop-index : goal.invariant-loop-index
invariant-loop-index l = (k : ℕ) → k < l.index → ¬ Holds (bytes_of_entry (entry_at l.table.bytes.now (entry_place k))) l.place
