-- The number of a text of digits, from what `from_str_radix` says of it.
use Rattle.std.proofs.Common.{◌≡◌, ◌≢◌, ◌≤◌, ◌<◌, ◌^◌, ℕ, Bool, true, false, length, List, [], ◌∷◌, arith, refl, ap, subst, slice_index_or}
use Rattle.std.specs.Prelude.{Result, Ok, Err, Some, None}
use Rattle.std.specs.List.{list_all}
use Rattle.std.specs.Result.{OkIff, result_ok}
use Rattle.std.specs.Str.Parse.{AllDigits, IsNumeral, ParsesUnsigned, digits_value}
use Rattle.std.proofs.lemmas.Str.Parse.{without_leading_plus_none}
use Rattle.macho_words.specs.Number.{is_digit, is_numeral, number_in}

all_are_digits : (base : ℕ) (ds : List ℕ) → AllDigits base ds → list_all (is_digit base) ds ≡ true
all_are_digits base [] h = refl
all_are_digits base (c ∷ cs) h = grind (arith, h.0, all_are_digits base cs h.1)

each_is_digit : (base : ℕ) (ds : List ℕ) → list_all (is_digit base) ds ≡ true → AllDigits base ds
each_is_digit base [] h = tt
each_is_digit base (c ∷ cs) h = (grind (arith, h), each_is_digit base cs (grind (arith, h)))

numeral_is : (base most : ℕ) (ds : List ℕ) → length ds ≤ most → IsNumeral base ds → digits_value base ds < 2 ^ 64 → is_numeral base most ds ≡ true
numeral_is base most ds few h fits = grind (arith, few, h.0, fits, all_are_digits base ds h.1)

numeral_from : (base most : ℕ) (ds : List ℕ) → is_numeral base most ds ≡ true → IsNumeral base ds × (digits_value base ds < 2 ^ 64)
numeral_from base most ds h = ((grind (arith, h), each_is_digit base ds (grind (arith, h))), grind (arith, h))

-- what `from_str_radix` reads of a text without a plus
numeral_read : {E : Type 0} (base most : ℕ) (ds : List ℕ) (r : Result ℕ E) → length ds ≤ most
    → OkIff r (IsNumeral base ds × (digits_value base ds < 2 ^ 64)) (digits_value base ds)
    → result_ok r ≡ number_in base most ds
numeral_read base most ds (Ok n) few h = rw (numeral_is base most ds few h.0.0 h.0.1) (ap Some h.1)
numeral_read base most ds (Err e) few h = go (is_numeral base most ds) refl
  where
    go : (t : Bool) → is_numeral base most ds ≡ t → None ≡ number_in base most ds
    go true t = absurd (h (numeral_from base most ds t))
    go false t = rw t refl

pub parsed : {E : Type 0} (base most : ℕ) (ds : List ℕ) (r : Result ℕ E) → length ds ≤ most → slice_index_or ds 0 0 ≢ 43
    → ParsesUnsigned 64 base ds r → result_ok r ≡ number_in base most ds
parsed base most ds r few no_plus h = numeral_read base most ds r few
    (subst (λ (text : List ℕ). OkIff r (IsNumeral base text × (digits_value base text < 2 ^ 64)) (digits_value base text))
    (without_leading_plus_none ds no_plus) h)
