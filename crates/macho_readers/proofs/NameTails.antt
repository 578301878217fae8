-- Which bytes of a field come after the name in it.
use Rattle.std.proofs.Common.{◌≡◌, ◌≢◌, ℕ, ◌+◌, ◌-◌, ◌==◌, ◌≤◌, ◌<◌, ◌⊎◌, min, List, Bool, true, false, length, drop, get_or, slice_index, refl, sym, ap, ◌∙◌, subst, arith, inl, inr, length-drop}
use Rattle.std.proofs.lemmas.Bool.{cases_lt, eqb-false, eqb-true, true≢false}
use Rattle.std.proofs.lemmas.List.{length-take}
use Rattle.std.proofs.lemmas.List.Sums.{fails_before_first, passes_at_first}
use Rattle.std.specs.List.{position_or_len}
use Rattle.macho_fields.specs.Field.{part}
use Rattle.macho_image.specs.Segment.{short_name}
use Rattle.macho_image.proofs.Names.{part_at}
use Rattle.macho_readers.specs.Segments.{HasTail}

abbrev is_zero : ℕ → Bool
is_zero byte = byte == 0

-- how many bytes stand before the first zero one
abbrev name_length : List ℕ → ℕ
name_length bytes = position_or_len is_zero bytes

-- The bytes that were passed: all are in the name, or those after it are zero
pub record Passed (bytes : List ℕ) (k : ℕ) (is_ended : Bool) : Type 0 where
  pub among : is_ended ≡ false → k ≤ name_length bytes
  pub ended : is_ended ≡ true → name_length bytes < k
  pub zeros : (j : ℕ) → name_length bytes ≤ j → j < k → slice_index bytes j ≡ 0

pub passed_none : (bytes : List ℕ) → Passed bytes 0 false
passed_none bytes = record { among = λ _. omega arith; ended = λ wrong. absurd (true≢false (sym wrong)); zeros = λ j past less. absurd (omega (arith, less)) }

module _ (bytes : List ℕ) (k : ℕ) (less : k < length bytes) (is_ended : Bool) (passed : Passed bytes k is_ended) where
  pub passed_zero : slice_index bytes k ≡ 0 → Passed bytes (k + 1) true
  passed_zero none = record { among = λ wrong. absurd (true≢false wrong); ended = λ _. within (cases_lt k (name_length bytes)); zeros = λ j past below. zeros j past below (cases_lt j k) }
    where
      within : (k < name_length bytes) ⊎ (name_length bytes ≤ k) → name_length bytes < k + 1
      within (inl before) = absurd (eqb-false (slice_index bytes k) 0 (fails_before_first is_zero bytes k 0 before) none)
      within (inr at) = omega (arith, at)

      zeros : (j : ℕ) → name_length bytes ≤ j → j < k + 1 → (j < k) ⊎ (k ≤ j) → slice_index bytes j ≡ 0
      zeros j past below (inl old) = passed.zeros j past old
      zeros j past below (inr last) = let here : k ≡ j = omega (arith, below, last) in subst (λ i. slice_index bytes i ≡ 0) here none

  pub passed_byte : slice_index bytes k ≢ 0 → is_ended ≡ false → Passed bytes (k + 1) false
  passed_byte some among = record { among = λ _. longer; ended = λ wrong. absurd (true≢false (sym wrong)); zeros = λ j past below. absurd (omega (arith, past, below, longer)) }
    where
      longer : k + 1 ≤ name_length bytes
      longer = by (cases_lt k (name_length bytes))
        where
          by : (k < name_length bytes) ⊎ (name_length bytes ≤ k) → k + 1 ≤ name_length bytes
          by (inl before) = omega (arith, before)
          by (inr at) =
              let low = passed.among among in
              let here : name_length bytes ≡ k = omega (arith, at, low) in
              absurd (some (eqb-true (slice_index bytes k) 0 (subst (λ i. is_zero (get_or bytes i 0) ≡ true) here (passes_at_first is_zero bytes 0 (omega (arith, here, less))))))

module _ (image : List ℕ) (place : ℕ) (inside : place + 16 ≤ length image) (bytes : List ℕ) (are : bytes ≡ part place 16 image) where
  part_length : length (part place 16 image) ≡ 16
  part_length = length-take 16 (drop place image) ∙ (let rest = length-drop place image in omega (arith, rest, inside))

  bytes_length : length bytes ≡ 16
  bytes_length = ap length are ∙ part_length

  short_length : length (short_name image place) ≡ min (name_length bytes) 16
  short_length =
      subst (λ these. length (short_name image place) ≡ min (name_length these) 16) (sym are)
      (length-take (name_length (part place 16 image)) (part place 16 image) ∙ ap (min (name_length (part place 16 image))) part_length)

  at : (k : ℕ) → k < 16 → slice_index bytes k ≡ slice_index image (place + k)
  at k less = ap (λ these. slice_index these k) are ∙ part_at image place 16 k less

  pub tail_found : (k : ℕ) → k < length bytes → Passed bytes k true → slice_index bytes k ≢ 0 → HasTail image place
  tail_found k less passed some =
      let past = passed.ended refl in
      let short = short_length in
      let all = bytes_length in
      let same = at k (omega (arith, less, all)) in
      (place + k, omega (arith, past, short), omega (arith, less, all), (omega (arith, less, all, inside), λ none. some (same ∙ none)))

  pub tail_none : (k : ℕ) (is_ended : Bool) → length bytes ≤ k → Passed bytes k is_ended → ¬ HasTail image place
  tail_none k is_ended whole passed (there, from, to, (_, some)) =
      let short = short_length in
      let all = bytes_length in
      let here : place + (there - place) ≡ there = omega (arith, from) in
      let same = at (there - place) (omega (arith, from, to)) in
      let none = passed.zeros (there - place) (omega (arith, from, to, short)) (omega (arith, from, to, whole, all)) in
      some (ap (slice_index image) (sym here) ∙ (sym same ∙ none))
