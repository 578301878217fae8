use Rattle.std.proofs.Common.{◌<◌, ℕ}
use Rattle.macho_spans.specs.Span.{Holds}
use Rattle.macho_tables.specs.DataInCode.{entry_at, entry_place, bytes_of_entry}
use Rattle.macho_readers.proofs.entry.says_data.Given as goal

-- no entry before it describes the place
abbrev pub invariant-loop-index : goal.invariant-loop-index
invariant-loop-index l = (k : ℕ) → k < l.index → ¬ Holds (bytes_of_entry (entry_at l.entries.bytes.now (entry_place k))) l.place
