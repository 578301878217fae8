use Rattle.std.proofs.Common.{◌+◌, ◌*◌, ◌<◌, ℕ}
use Rattle.macho_symbols.specs.Reloc.{relocation_at}
use Rattle.macho_symbols.specs.Relocations.{IsBadOf}
use Rattle.macho_symbols.proofs.relocations.RelocationTable.first_bad.Given as goal

-- the relocations before it are not bad
abbrev pub invariant-loop-index : goal.invariant-loop-index
invariant-loop-index l =
    (k : ℕ) → k < l.index → ¬ IsBadOf l.image.bytes.now l.self.owner (relocation_at l.image.bytes.now (l.self.start + 8 * k))
