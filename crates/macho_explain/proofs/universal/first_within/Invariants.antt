use Rattle.std.proofs.Common.{◌<◌, ℕ}
use Rattle.macho_fields.specs.Bytes.{bytes_of}
use Rattle.macho_explain.specs.Entries.{HasTable}
use Rattle.macho_explain.proofs.EntryPages.{BeginsWithin}
use Rattle.macho_explain.proofs.universal.first_within.Given as goal

-- no slice that was passed begins there
abbrev pub invariant-loop-index : goal.invariant-loop-index
invariant-loop-index l = HasTable (bytes_of l.file) → (k : ℕ) → k < l.index → ¬ BeginsWithin (bytes_of l.file) l.start l.end k
