-- Names in 16 bytes, up to the first zero byte.
use Rattle.std.proofs.Common.{◌≡◌, ℕ, inl, inr, ◌+◌, ◌-◌, ◌≤◌, ◌<◌, ◌==◌, min, Bool, true, false, List, length, take, drop, get_or, slice_index, refl, sym, ap, ◌∙◌, subst, arith, length-drop}
use Rattle.std.specs.List.{position_or_len}
use Rattle.std.proofs.lemmas.Bool.{cases_lt, eqb-false, ne_eqb}
use Rattle.std.proofs.lemmas.List.{get_or-take, get_or-drop, length-take, take-take}
use Rattle.std.proofs.lemmas.List.Sums.{position_or_len_is, fails_before_first, passes_at_first}
use Rattle.macho_fields.specs.Field.{part, string_from, HasZero}
use Rattle.macho_image.specs.Segment.{short_name}

abbrev is_zero : ℕ → Bool
is_zero b = b == 0

pub part_at : (bytes : List ℕ) (start len k : ℕ) → k < len → slice_index (part start len bytes) k ≡ slice_index bytes (start + k)
part_at bytes start len k less = get_or-take len (drop start bytes) k 0 less ∙ get_or-drop start bytes k 0

part_length : (bytes : List ℕ) (start len : ℕ) → length (part start len bytes) ≡ min len (length bytes - start)
part_length bytes start len = length-take len (drop start bytes) ∙ ap (min len) (length-drop start bytes)

-- a zero byte of some bytes is not past the first
zero_at_first : (xs : List ℕ) (k : ℕ) → k < length xs → get_or xs k 0 ≡ 0 → position_or_len (λ b. b == 0) xs ≤ k
zero_at_first xs k less is = elim (cases_lt k (position_or_len is_zero xs)) [ inr most ↦ most | inl before ↦ absurd (eqb-false (get_or xs k 0) 0 (fails_before_first is_zero xs k 0 before) is) ]

-- a name that ends in the first of the bytes is the same in all of them
name_of_take : (xs : List ℕ) (n k : ℕ) → k < length (take n xs) → get_or (take n xs) k 0 ≡ 0 → take (position_or_len (λ b. b == 0) (take n xs)) (take n xs) ≡ take (position_or_len (λ b. b == 0) xs) xs
name_of_take xs n k less is =
    let first : position_or_len is_zero (take n xs) ≤ k = zero_at_first (take n xs) k less is in
    let size : length (take n xs) ≡ min n (length xs) = length-take n xs in
    ends (position_or_len is_zero (take n xs)) refl (omega arith) (omega arith)
  where
    ends : (m : ℕ) → m ≡ position_or_len (λ b. b == 0) (take n xs) → m < n → m < length xs → take (position_or_len (λ b. b == 0) (take n xs)) (take n xs) ≡ take (position_or_len (λ b. b == 0) xs) xs
    ends m e low high =
        let size : length (take n xs) ≡ min n (length xs) = length-take n xs in
        let passes : (get_or (take n xs) m 0 == 0) ≡ true = subst (λ i. (get_or (take n xs) i 0 == 0) ≡ true) (sym e) (passes_at_first is_zero (take n xs) 0 (omega arith)) in
        let same : position_or_len is_zero xs ≡ m = position_or_len_is is_zero xs m 0 (omega arith)
        (λ j less'. subst (λ v. (v == 0) ≡ false) (get_or-take n xs j 0 (omega arith)) (fails_before_first is_zero (take n xs) j 0 (omega arith)))
        (λ _. subst (λ v. (v == 0) ≡ true) (get_or-take n xs m 0 low) passes) in
        ap (λ i. take i (take n xs)) (sym e) ∙ (take-take m n xs (omega arith) ∙ ap (λ i. take i xs) (sym same))

-- a short name that ends in its 16 bytes
pub short_name_ended : (bytes : List ℕ) (start : ℕ) → HasZero bytes start (start + 16) → string_from start bytes ≡ short_name bytes start
short_name_ended bytes start (z, low, high, inside, is) =
    let here : start + (z - start) ≡ z = omega arith in
    let size : length (drop start bytes) ≡ length bytes - start = length-drop start bytes in
    let long : length (take 16 (drop start bytes)) ≡ min 16 (length (drop start bytes)) = length-take 16 (drop start bytes) in
    let zero_here : get_or (take 16 (drop start bytes)) (z - start) 0 ≡ 0 = get_or-take 16 (drop start bytes) (z - start) 0 (omega arith) ∙
    (get_or-drop start bytes (z - start) 0 ∙ (ap (slice_index bytes) here ∙ is)) in
    sym (name_of_take (drop start bytes) 16 (z - start) (omega arith) zero_here)

-- one that has all of them
pub short_name_whole : (bytes : List ℕ) (start : ℕ) → start + 16 ≤ length bytes → ¬ HasZero bytes start (start + 16) → part start 16 bytes ≡ short_name bytes start
short_name_whole bytes start inside none =
    let long : length (part start 16 bytes) ≡ min 16 (length bytes - start) = part_length bytes start 16 in
    let len : position_or_len is_zero (part start 16 bytes) ≡ 16 = position_or_len_is is_zero (part start 16 bytes) 16 0 (omega arith) before (λ less. absurd (omega arith)) in
    sym (ap (λ k. take k (part start 16 bytes)) len ∙ take-take 16 16 (drop start bytes) (omega arith))
  where
    before : (k : ℕ) → k < 16 → (get_or (part start 16 bytes) k 0 == 0) ≡ false
    before k less = ne_eqb (get_or (part start 16 bytes) k 0) 0 (λ zero_here. none (start + k, omega arith, omega arith, omega arith, sym (part_at bytes start 16 k (omega arith)) ∙ zero_here))
