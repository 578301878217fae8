-- A search for a zero byte in a part of the bytes, which may be cut at their end.
use Rattle.std.proofs.Common.{◌≡◌, ℕ, ◌+◌, ◌-◌, ◌≤◌, ◌<◌, List, length, slice_index, slice_get, Some, sym, ap, ◌∙◌, arith}
use Rattle.std.proofs.lemmas.Bool.{eqb-true, eq-eqb}
use Rattle.std.proofs.lemmas.Option.{slice_get-get_or}
use Rattle.memchr.specs.Find.{is_byte, IsFirstByte, IsLastByte, Nowhere, Passes}
use Rattle.macho_fields.specs.Field.{part, HasZero}
use Rattle.macho_spans.specs.Span.{Covers}
use Rattle.macho_fields.proofs.ClippedParts.{inside_part, in_part, read_part}

module _ (bytes within : List ℕ) (start len : ℕ) (are : within ≡ part start len bytes) where
  -- an index of the part whose byte is zero is a place of the bytes
  pub zero_in_part : (k : ℕ) → k < length within → Passes (is_byte 0) within k → Covers start len (start + k) × (slice_get bytes (start + k) ≡ Some 0)
  zero_in_part k inside is =
      let (below, held) = inside_part bytes within start len are k inside in
      let zero : slice_index bytes (start + k) ≡ 0 = sym (read_part bytes within start len are k inside) ∙ eqb-true _ 0 is in
      ((omega arith, omega arith), slice_get-get_or bytes (start + k) 0 held ∙ ap Some zero)

  -- a place whose byte is zero is such an index
  zero_passes : (z : ℕ) → start ≤ z → z - start < length within → slice_index bytes z ≡ 0 → Passes (is_byte 0) within (z - start)
  zero_passes z low here is =
      let at : start + (z - start) ≡ z = omega arith in
      eq-eqb _ 0 (read_part bytes within start len are (z - start) here ∙ (ap (slice_index bytes) at ∙ is))

  none_from : (i from : ℕ) → start + i ≤ from → Nowhere (Passes (is_byte 0) within) i (length within) → ¬ HasZero bytes from (start + len)
  none_from i from past none (z, low, high, held, is) =
      let here = in_part bytes within start len are z (omega arith) high held in none (z - start) (omega arith) here (zero_passes z (omega arith) here is)

  -- no place has a zero byte where no index of the part has one
  pub none_in_part : Nowhere (Passes (is_byte 0) within) 0 (length within) → ¬ HasZero bytes start (start + len)
  none_in_part none = none_from 0 start (omega arith) none

  -- none does before the first one of the part
  pub none_before : (k : ℕ) → IsFirstByte (is_byte 0) within (Some k) → ¬ HasZero bytes start (start + k)
  none_before k (first, at) (z, low, high, held, is) = first.before (z - start) (omega arith) (omega arith) (zero_passes z low (omega (arith, first.high)) is)

  -- none does after the last one of the part
  pub none_after : (k : ℕ) → IsLastByte (is_byte 0) within (Some k) → ¬ HasZero bytes (start + k + 1) (start + len)
  none_after k (last, at) = none_from (k + 1) (start + k + 1) (omega arith) last.after
