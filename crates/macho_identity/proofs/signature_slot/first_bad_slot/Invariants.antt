use Rattle.std.proofs.Common.{◌<◌, ℕ}
use Rattle.macho_identity.specs.SignatureSlot.{IsBadSlot}
use Rattle.macho_identity.proofs.Noted.{AreNoted}
use Rattle.macho_identity.proofs.SeenSlots.{number_at, IsPastUnnamed}
use Rattle.macho_identity.proofs.signature_slot.first_bad_slot.Given as goal

-- the slots of the entries before it are noted, and no such entry is bad
abbrev pub invariant-loop-index : goal.invariant-loop-index
invariant-loop-index l = record {
  taken : AreNoted (number_at l.signature.bytes.now) 20 l.index l.is_taken;
  past : IsPastUnnamed l.signature.bytes.now l.index l.least;
  good : (j : ℕ) → j < l.index → ¬ IsBadSlot l.signature.bytes.now j;
}
