-- How a string begins: with the byte at its place, unless that is zero.
use Rattle.std.proofs.Common.{◌≡◌, ℕ, zero, suc, ◌+◌, ◌==◌, List, [], ◌∷◌, cond, slice_get, Some, None, refl, arith, inl, inr}
use Rattle.std.specs.List.{before_first, position_or_len}
use Rattle.std.proofs.lemmas.Bool.{cases_Bool}
use Rattle.macho_fields.specs.Field.{string_from}

pub string_past : (bytes : List ℕ) (place : ℕ) → slice_get bytes place ≡ None → string_from place bytes ≡ []
string_past [] zero is = refl
string_past [] (suc k) is = refl
string_past (x ∷ xs) zero is = absurd (cc)
string_past (x ∷ xs) (suc k) is = string_past xs k is

first_byte : (x : ℕ) (xs : List ℕ) → before_first (λ byte. byte == 0) (x ∷ xs) ≡ cond (x == 0) [] (x ∷ before_first (λ byte. byte == 0) xs)
first_byte x xs = elim (cases_Bool (x == 0)) [ inl t ↦ rw t refl | inr f ↦ rw (f, more) refl ]
  where
    len : ℕ
    len = position_or_len (λ byte. byte == 0) xs

    more : 1 + len ≡ suc len
    more = omega arith

pub string_begins : (bytes : List ℕ) (place byte : ℕ) → slice_get bytes place ≡ Some byte → string_from place bytes ≡ cond (byte == 0) [] (byte ∷ string_from (place + 1) bytes)
string_begins [] place byte is = absurd (cc)
string_begins (x ∷ xs) zero byte is =
    let same : x ≡ byte = cc in rw (← same) (first_byte x xs)
string_begins (x ∷ xs) (suc k) byte is =
    let step : suc k + 1 ≡ suc (k + 1) = omega arith in
    rw step (string_begins xs k byte is)
