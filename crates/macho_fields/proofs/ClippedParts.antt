-- A part of the bytes, which may be cut at their end.
use Rattle.std.proofs.Common.{◌≡◌, ℕ, ◌+◌, ◌-◌, ◌≤◌, ◌<◌, List, length, drop, slice_index, ap, ◌∙◌, arith, length-drop, length-take}
use Rattle.std.proofs.lemmas.List.{get_or-take, get_or-drop}
use Rattle.macho_fields.specs.Field.{part}

module _ (bytes within : List ℕ) (start len : ℕ) (are : within ≡ part start len bytes) where
  pub inside_part : (k : ℕ) → k < length within → (k < len) × (start + k < length bytes)
  inside_part k h =
      let size = ap length are in (omega (arith, size, length-take len (drop start bytes)), omega (arith, size, length-take len (drop start bytes), length-drop start bytes))

  pub in_part : (z : ℕ) → start ≤ z → z < start + len → z < length bytes → z - start < length within
  in_part z low high inside = omega (arith, ap length are, length-take len (drop start bytes), length-drop start bytes)

  pub read_part : (k : ℕ) → k < length within → slice_index within k ≡ slice_index bytes (start + k)
  read_part k h = ap (λ xs. slice_index xs k) are ∙ (get_or-take len (drop start bytes) k 0 (inside_part k h).0 ∙ get_or-drop start bytes k 0)
