use Rattle.std.proofs.Common.{◌≡◌, ◌<◌, ℕ}
use Rattle.macho_fields.specs.Bytes.{bytes_of}
use Rattle.macho_seals.specs.Specials.{IsSpecialAt}
use Rattle.macho_signature.specs.Superblobs.{blob_at}
use Rattle.macho_explain.proofs.seal.special_at.Given as goal

-- no blob before is in a special slot and begins there
abbrev pub invariant-loop-index : goal.invariant-loop-index
invariant-loop-index l =
    let signature = bytes_of l.signature.bytes in
    (j : ℕ) → j < l.index → (blob_at signature j).offset ≡ l.offset → ¬ IsSpecialAt signature j
