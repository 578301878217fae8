-- How many bytes a string has.
use Rattle.std.proofs.Common.{◌≡◌, ℕ, ◌+◌, ◌-◌, ◌≤◌, ◌==◌, Bool, List, length, drop, slice_get, Some, sym, ◌∙◌, arith, length-drop}
use Rattle.std.specs.List.{position_or_len}
use Rattle.std.proofs.lemmas.Bool.{ne_eqb}
use Rattle.std.proofs.lemmas.List.{get_or-drop, length-take, length-take-le}
use Rattle.std.proofs.lemmas.List.Sums.{position_or_len_is}
use Rattle.std.proofs.lemmas.Option.{slice_get_within}
use Rattle.macho_fields.specs.Field.{part, string_from, HasZero}
use Rattle.macho_fields.proofs.Strings.{string_ends}

abbrev is_zero : ℕ → Bool
is_zero byte = byte == 0

-- a string ends at its first zero byte
pub ended_size : (bytes : List ℕ) (start z : ℕ) → start ≤ z → slice_get bytes z ≡ Some 0 → (HasZero bytes start z → ⊥) → start + length (string_from start bytes) ≡ z
ended_size bytes start z from there first =
    let inside = slice_get_within bytes z 0 there in
    let is = string_ends bytes start z from there first in
    let size : length (part start (z - start) bytes) ≡ z - start = length-take-le (z - start) (drop start bytes) (rw (length-drop start bytes) (omega arith)) in rw (← is, size) (omega arith)

-- a string without a zero byte has all bytes that follow
pub endless_size : (bytes : List ℕ) (start : ℕ) → (HasZero bytes start (start + length bytes) → ⊥) → length (string_from start bytes) ≡ length bytes - start
endless_size bytes start none =
    let size = length-drop start bytes in
    let len : position_or_len is_zero (drop start bytes) ≡ length (drop start bytes) =
    position_or_len_is is_zero (drop start bytes) (length (drop start bytes)) 0 (omega arith)
    (λ k below. ne_eqb _ 0 (λ is. none (start + k, omega arith, omega arith, omega arith, sym (get_or-drop start bytes k 0) ∙ is)))
    (λ past. absurd (omega arith)) in
    let count = length-take (position_or_len is_zero (drop start bytes)) (drop start bytes) in
    omega (arith, count)
