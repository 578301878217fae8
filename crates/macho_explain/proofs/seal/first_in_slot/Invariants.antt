use Rattle.std.proofs.Common.{◌≢◌, ◌<◌, ℕ}
use Rattle.macho_fields.specs.Bytes.{bytes_of}
use Rattle.macho_signature.specs.Superblobs.{blob_at}
use Rattle.macho_explain.proofs.seal.first_in_slot.Given as goal

-- no blob before is in the slot
abbrev pub invariant-loop-index : goal.invariant-loop-index
invariant-loop-index l = (j : ℕ) → j < l.index → (blob_at (bytes_of l.signature.bytes) j).slot ≢ l.slot
