-- Names as numbers: a name has one number, and other names have others.
use Rattle.std.proofs.Common.{◌≡◌, ◌≢◌, ℕ, suc, ◌+◌, ◌-◌, ◌*◌, ◌^◌, ◌==◌, ◌≤◌, ◌<◌, ◌⊎◌, List, [], ◌∷◌, ◌++◌, Bool, false, length, take, drop, get_or, slice_index, refl, sym, ap, ◌∙◌, subst, arith, inl, inr, length-drop}
use Rattle.std.proofs.Math.Pow.{pow_mono}
use Rattle.std.proofs.lemmas.Bool.{cases_lt, eqb-false, ne_eqb}
use Rattle.std.proofs.lemmas.List.{get_or-take, length-take, take-append-drop, take_more}
use Rattle.std.proofs.lemmas.List.Sums.{position_or_len_is, fails_before_first}
use Rattle.std.proofs.lemmas.Nat.{pow-add}
use Rattle.std.specs.List.{before_first, position_or_len}
use Rattle.macho_fields.specs.Field.{part}
use Rattle.macho_image.specs.Segment.{short_name}
use Rattle.macho_image.proofs.Names.{part_at}
use Rattle.macho_readers.specs.Names.{number_with, number_of}

abbrev is_zero : ℕ → Bool
is_zero byte = byte == 0

-- one more byte
number_push : (n : ℕ) (bytes : List ℕ) (byte : ℕ) → number_with n (bytes ++ byte ∷ []) ≡ number_with n bytes * 256 + byte
unfolding number_with
number_push n [] byte = refl
number_push n (x ∷ xs) byte = number_push (n * 256 + x) xs byte

-- Bytes that are not zero have one number

abbrev AreDigits : List ℕ → Type 0
AreDigits bytes = (k : ℕ) → k < length bytes → (0 < slice_index bytes k) × (slice_index bytes k < 256)

later : (byte : ℕ) (bytes : List ℕ) → AreDigits (byte ∷ bytes) → AreDigits bytes
later byte bytes are k less = are (suc k) (omega (arith, less))

-- of as many bytes
same_long : (xs ys : List ℕ) (m n : ℕ) → length xs ≡ length ys → AreDigits xs → AreDigits ys → number_with m xs ≡ number_with n ys → (m ≡ n) × (xs ≡ ys)
unfolding number_with
same_long [] [] m n long are_x are_y same = (same, refl)
same_long [] (y ∷ ys) m n long are_x are_y same = absurd (omega (arith, long))
same_long (x ∷ xs) [] m n long are_x are_y same = absurd (omega (arith, long))
same_long (x ∷ xs) (y ∷ ys) m n long are_x are_y same =
    let (above, rest) = same_long xs ys (m * 256 + x) (n * 256 + y) (omega (arith, long)) (later x xs are_x) (later y ys are_y) same in
    let (_, fits_x) = are_x 0 (omega arith) in
    let (_, fits_y) = are_y 0 (omega arith) in
    let head : x ≡ y = omega (arith, above, fits_x, fits_y) in
    (omega (arith, above, head), (λ i. head i ∷ rest i))

-- a number grows with each byte
grows : (xs : List ℕ) (m : ℕ) → m ≤ number_with m xs
unfolding number_with
grows [] m = omega arith
grows (x ∷ xs) m = let more = grows xs (m * 256 + x) in omega (arith, more)

-- more bytes than the other has
longer : (extra xs ys : List ℕ) (m : ℕ) → length xs ≡ length ys → AreDigits (extra ++ xs) → AreDigits ys → number_with m (extra ++ xs) ≡ number_with 0 ys → (m ≡ 0) × (extra ≡ [])
unfolding number_with
longer [] xs ys m long are are_y same = ((same_long xs ys m 0 long are are_y same).0, refl)
longer (x ∷ extra) xs ys m long are are_y same =
    let (none, _) = longer extra xs ys (m * 256 + x) long (later x (extra ++ xs) are) are_y same in
    let (some, _) = are 0 (omega arith) in
    absurd (omega (arith, none, some))

shorter : (xs ys : List ℕ) → length ys ≤ length xs → AreDigits xs → AreDigits ys → number_of xs ≡ number_of ys → xs ≡ ys
shorter xs ys less are_x are_y same =
    let extra = take (length xs - length ys) xs in
    let rest = drop (length xs - length ys) xs in
    let whole : extra ++ rest ≡ xs = take-append-drop (length xs - length ys) xs in
    let long : length rest ≡ length ys = length-drop (length xs - length ys) xs ∙ omega (arith, less) in
    let (_, none) = longer extra rest ys 0 long (subst AreDigits (sym whole) are_x) are_y (ap number_of whole ∙ same) in
    let alone : rest ≡ xs = ap (λ l. l ++ rest) (sym none) ∙ whole in
    (same_long xs ys 0 0 (ap length (sym alone) ∙ long) are_x are_y same).1

same_name : (xs ys : List ℕ) → AreDigits xs → AreDigits ys → number_of xs ≡ number_of ys → xs ≡ ys
same_name xs ys are_x are_y same =
    elim (cases_lt (length xs) (length ys)) [
      | inl less ↦ sym (shorter ys xs (omega (arith, less)) are_y are_x (sym same))
      | inr most ↦ shorter xs ys most are_x are_y same
    ]

-- the bytes of a name are such digits
name_digits : (image : List ℕ) (place : ℕ) → ((k : ℕ) → slice_index image k < 256) → AreDigits (short_name image place)
name_digits image place fits k less =
    let field = part place 16 image in
    let within = length-take (position_or_len is_zero field) field in
    let at = get_or-take (position_or_len is_zero field) field k 0 (omega (arith, less, within)) in
    let byte = part_at image place 16 k (omega (arith, less, within, length-take 16 (drop place image))) in
    let some = eqb-false (slice_index field k) 0 (fails_before_first is_zero field k 0 (omega (arith, less, within))) in
    let there = fits (place + k) in
    (omega (arith, at, some), omega (arith, at, byte, there))

-- names with the same number
pub same_short : (image : List ℕ) → ((k : ℕ) → slice_index image k < 256) → (one other : ℕ) → number_of (short_name image one) ≡ number_of (short_name image other) → short_name image one ≡ short_name image other
same_short image fits one other =
    same_name (short_name image one) (short_name image other) (name_digits image one fits) (name_digits image other fits)

-- The number of the bytes that were passed, where each is more than zero

pub record Passed (bytes : List ℕ) (k number : ℕ) : Type 0 where
  pub is : number ≡ number_of (take k bytes)
  pub nonzero : (j : ℕ) → j < k → slice_index bytes j ≢ 0
  pub fits : number < 2 ^ (8 * k)

pub passed_none : (bytes : List ℕ) → Passed bytes 0 0
unfolding number_with
passed_none bytes = record { is = refl; nonzero = λ j less. absurd (omega (arith, less)); fits = omega arith }

module _ (bytes : List ℕ) (k number : ℕ) (passed : Passed bytes k number) where
  module _ (less : k < length bytes) (fits : slice_index bytes k < 256) where
    more_fits : number * 256 + slice_index bytes k < 2 ^ (8 * (k + 1))
    more_fits =
        let below = passed.fits in
        let same : 2 ^ (8 * (k + 1)) ≡ 2 ^ (8 * k) * 256 = ap (λ e. 2 ^ e) (omega arith) ∙ pow-add 2 (8 * k) 8 in
        omega (arith, below, same, fits)

    -- it fits in 128 bits, where there are at most 16
    pub number_fits : length bytes ≤ 16 → number * 256 + slice_index bytes k < 2 ^ 128
    number_fits few = let most = pow_mono {i = 8 * (k + 1)} {j = 128} (omega (arith, less, few)) in let fits_more = more_fits in omega (arith, fits_more, most)

    pub passed_more : slice_index bytes k ≢ 0 → Passed bytes (k + 1) (number * 256 + slice_index bytes k)
    passed_more some = record {
      is = ap (λ n. n * 256 + slice_index bytes k) passed.is ∙ (sym (number_push 0 (take k bytes) (slice_index bytes k)) ∙ ap number_of (sym (take_more bytes k 0 less)));
      nonzero = λ j below. nonzero j below (cases_lt j k);
      fits = more_fits;
    }
      where
        nonzero : (j : ℕ) → j < k + 1 → (j < k) ⊎ (k ≤ j) → slice_index bytes j ≢ 0
        nonzero j below (inl old) = passed.nonzero j old
        nonzero j below (inr last) = let here : k ≡ j = omega (arith, below, last) in subst (λ i. slice_index bytes i ≢ 0) here some

  before : (j : ℕ) → j < k → is_zero (get_or bytes j 0) ≡ false
  before j less = ne_eqb (get_or bytes j 0) 0 (passed.nonzero j less)

  -- the name ends here
  name_is : position_or_len is_zero bytes ≡ k → number ≡ number_of (before_first is_zero bytes)
  name_is at = passed.is ∙ ap (λ i. number_of (take i bytes)) (sym at)

  pub passed_zero : k < length bytes → slice_index bytes k ≡ 0 → number ≡ number_of (before_first (λ b. b == 0) bytes)
  passed_zero less none = name_is (position_or_len_is is_zero bytes k 0 (omega (arith, less)) before (λ within. ap is_zero none))

  pub passed_all : k ≡ length bytes → number ≡ number_of (before_first (λ b. b == 0) bytes)
  passed_all all = name_is (position_or_len_is is_zero bytes k 0 (omega (arith, all)) before (λ within. absurd (omega (arith, within, all))))
