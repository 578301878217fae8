use Rattle.std.proofs.Common.{◌<◌, ℕ}
use Rattle.macho_seals.specs.Signature.{IsRepeated}
use Rattle.macho_seals.specs.Slots.{AreTaken}
use Rattle.macho_seals.proofs.repeated.first_repeated.Given as goal

-- the slots of the entries before it are noted, and no such entry has the slot of an earlier one
abbrev pub invariant-loop-index : goal.invariant-loop-index
invariant-loop-index l = record {
  taken : AreTaken l.signature.bytes.now l.index l.is_taken;
  none : (j : ℕ) → j < l.index → ¬ IsRepeated l.signature.bytes.now j;
}
