use Rattle.std.proofs.Common.{◌<◌, ℕ}
use Rattle.macho_fields.specs.Bytes.{bytes_of}
use Rattle.macho_fields.specs.Symbol.{PassesSymbols}
use Rattle.macho_explain.specs.Commanded.{group_shown}
use Rattle.macho_explain.proofs.command.symbol_group.Given as goal

-- no group that was passed ends past the symbols
abbrev pub invariant-loop-index : goal.invariant-loop-index
invariant-loop-index l =
    (k : ℕ) → k < l.index → ¬ PassesSymbols l.count (group_shown (bytes_of l.sliced.held.bytes) l.walked.load.place k)
