-- An operation on vectors is the operation on the numbers of each lane.
use Rattle.std.proofs.Common.{◌≡◌, ℕ, zero, suc, ◌-◌, ◌*◌, ◌/◌, ◌%◌, ◌^◌, ◌<◌, List, [], ◌∷◌, length, map, slice_index, bit_or, Fits, refl, ap, ap₂, ◌∙◌, arith}
use Rattle.std.specs.Int.{w32, rotate_right}
use Rattle.std.specs.Simd.Lanes.{Each1, zip2}
use Rattle.std.proofs.lemmas.Simd.{Each1-get_or, get_or-zip2, length-zip2}

-- the four lanes of a vector have these values
pub record AreLanes (vector : List ℕ) (value : ℕ → ℕ) : Type 0 where
  pub size : length vector ≡ 4
  pub each : (j : ℕ) → j < 4 → slice_index vector j ≡ value j

-- what holds of each of the four lanes
pub below_four : (P : ℕ → Type 0) → P 0 → P 1 → P 2 → P 3 → (j : ℕ) → j < 4 → P j
below_four P p0 p1 p2 p3 zero h = p0
below_four P p0 p1 p2 p3 (suc zero) h = p1
below_four P p0 p1 p2 p3 (suc (suc zero)) h = p2
below_four P p0 p1 p2 p3 (suc (suc (suc zero))) h = p3
below_four P p0 p1 p2 p3 (suc (suc (suc (suc n)))) h = absurd (omega arith)

-- the same value in each
pub splat : (x : ℕ) → AreLanes (x ∷ x ∷ x ∷ x ∷ []) (λ _. x)
splat x = record { size = refl; each = below_four _ refl refl refl refl }

-- the vector itself
pub own : (xs : List ℕ) → length xs ≡ 4 → AreLanes xs (slice_index xs)
own xs size = record { size = size; each = λ j h. refl }

pub zipped : (f : ℕ → ℕ → ℕ) {xs ys : List ℕ} {x y : ℕ → ℕ} → AreLanes xs x → AreLanes ys y → AreLanes (zip2 f xs ys) (λ j. f (x j) (y j))
zipped f {xs} {ys} {x} {y} left right = record {
  size = length-zip2 f xs ys (omega (arith, left.size, right.size)) ∙ left.size;
  each = λ j h. get_or-zip2 f xs ys j 0 0 0 (omega (arith, left.size)) (omega (arith, right.size)) ∙ ap₂ f (left.each j h) (right.each j h);
}

length-map : (f : ℕ → ℕ) (xs : List ℕ) → length (map f xs) ≡ length xs
length-map f [] = refl
length-map f (x ∷ xs) = ap suc (length-map f xs)

slice_index-map : (f : ℕ → ℕ) (xs : List ℕ) (j : ℕ) → j < length xs → slice_index (map f xs) j ≡ f (slice_index xs j)
slice_index-map f [] j h = absurd (omega arith)
slice_index-map f (x ∷ xs) zero h = refl
slice_index-map f (x ∷ xs) (suc j) h = slice_index-map f xs j (omega arith)

pub mapped : (f : ℕ → ℕ) {xs : List ℕ} {x : ℕ → ℕ} → AreLanes xs x → AreLanes (map f xs) (λ j. f (x j))
mapped f {xs} {x} lanes = record {
  size = length-map f xs ∙ lanes.size;
  each = λ j h. slice_index-map f xs j (omega (arith, lanes.size)) ∙ ap f (lanes.each j h);
}

-- two shifts of each lane and an or are a rotation
pub rotated : (by : ℕ) → 0 < by → by < 32 → (xs : List ℕ) → length xs ≡ 4 → (j : ℕ) → j < 4
    → slice_index (zip2 bit_or (zip2 (λ x n. x / 2 ^ n) xs (by ∷ by ∷ by ∷ by ∷ []))
    (zip2 (λ x n. x * 2 ^ n % 2 ^ 32) xs ((32 - by) ∷ (32 - by) ∷ (32 - by) ∷ (32 - by) ∷ []))) j
    ≡ rotate_right w32 (slice_index xs j) by
rotated by low high xs size j h =
    let left : by % 32 ≡ by = omega arith in
    let right : (32 - by) % 32 ≡ 32 - by = omega arith in
    let both = zipped bit_or (zipped (λ x n. x / 2 ^ n) (own xs size) (splat by)) (zipped (λ x n. x * 2 ^ n % 2 ^ 32) (own xs size) (splat (32 - by))) in
    both.each j h ∙ rw (left, right) refl

-- each lane is a word
pub lane_fits : (xs : List ℕ) (j : ℕ) → (length xs ≡ 4) × Each1 (Fits w32) xs → j < 4 → slice_index xs j < 2 ^ 32
lane_fits xs j (size, fit) h = (Each1-get_or (Fits w32) xs j 0 (omega (arith, size, h)) fit).fits
