-- The bytes before the first zero byte.
use Rattle.std.proofs.Common.{◌≡◌, ◌↔◌, ℕ, ◌+◌, ◌==◌, ◌∙◌, List, length, true, Option, None, Some, IsSome, IfSome, Bor, inl, inr, refl, sym, ap, arith}
use Rattle.std.proofs.lemmas.Bool.{eqb-true, false≢true, cases_Bool}
use Rattle.std.proofs.lemmas.Grind.{get_or_default_zero}
use Rattle.std.proofs.lemmas.List.Folds.{Any-from_list_any, list_any-from_Any}
use Rattle.std.specs.List.{list_any}
use Rattle.std.specs.Option.{option_map}
use Rattle.macho_fields.specs.Field.{HasZero, string_from}
use Rattle.macho_rows.specs.Rows.{first_string}

has_zero : (bytes : List ℕ) → list_any (λ byte. byte == 0) bytes ≡ true → HasZero bytes 0 (0 + length bytes)
has_zero bytes is =
    let (k, byte, less, here, zero) = Any-from_list_any (λ byte. byte == 0) bytes is in
    (k, omega arith, omega (arith, less), less, sym (get_or_default_zero bytes k byte less) ∙ (here ∙ eqb-true byte 0 zero))

pub zero_any : (bytes : List ℕ) → HasZero bytes 0 (0 + length bytes) → list_any (λ byte. byte == 0) bytes ≡ true
zero_any bytes (k, from, below, less, is) = list_any-from_Any (λ byte. byte == 0) bytes (k, 0, less, is, refl)

-- what a search for the first zero byte returns
pub first_read : (bytes : List ℕ) (found : Option (Bor (List ℕ))) → IsSome found ↔ HasZero bytes 0 (0 + length bytes) → IfSome found (λ string. string.now ≡ string_from 0 bytes)
    → option_map (λ string. string.now) found ≡ first_string bytes
first_read bytes None ended is = elim (cases_Bool (list_any (λ byte. byte == 0) bytes)) [
  | inl some ↦ absurd (false≢true (ended.1 (has_zero bytes some)))
  | inr none ↦ rw none refl
]
first_read bytes (Some string) ended is = rw (zero_any bytes (ended.0 refl)) (ap Some is)
