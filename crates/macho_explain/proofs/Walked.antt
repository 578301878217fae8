-- What is at an index of a list, and what is before it.
use Rattle.std.proofs.Common.{◌≡◌, ◌∙◌, ℕ, zero, suc, ◌+◌, ◌-◌, ◌^◌, ◌≤◌, ◌<◌, List, [], ◌∷◌, length, map, take, drop, ap, arith, below_more, subst, sym}
use Rattle.std.specs.Prelude.{slice_get, min, Option, Some, None, IfSome}
use Rattle.std.specs.List.{sum_by}
use Rattle.std.proofs.lemmas.List.Sums.{sum_by_more}
use Rattle.std.proofs.lemmas.Option.{same_Some, slice_get_within, get_or_from_slice_get}

module _ {A : Type 0} where
  pub listed : (xs : List A) (k : ℕ) (x : A) (rest : List A) → drop k xs ≡ x ∷ rest → slice_get xs k ≡ Some x
  listed [] zero x rest is = absurd (cc)
  listed (y ∷ xs) zero x rest is = let same : y ≡ x = cc in ap Some same
  listed [] (suc k) x rest is = absurd (cc)
  listed (y ∷ xs) (suc k) x rest is = listed xs k x rest is

  pub passed : (xs : List A) (k : ℕ) (x : A) (rest : List A) → drop k xs ≡ x ∷ rest → drop (k + 1) xs ≡ rest
  passed [] zero x rest is = absurd (cc)
  passed (y ∷ xs) zero x rest is = cc
  passed [] (suc k) x rest is = absurd (cc)
  passed (y ∷ xs) (suc k) x rest is = let next : suc k + 1 ≡ suc (k + 1) = omega arith in rw next (passed xs k x rest is)

  pub summed : (f : A → ℕ) (xs : List A) (k : ℕ) (x : A) (rest : List A) → drop k xs ≡ x ∷ rest → sum_by f (take (k + 1) xs) ≡ sum_by f (take k xs) + f x
  summed f xs k x rest is =
      let at = listed xs k x rest is in
      sum_by_more f xs k x (slice_get_within xs k x at) ∙ ap (λ y. sum_by f (take k xs) + f y) (get_or_from_slice_get xs k x x at)

  pub within : (xs : List A) (k : ℕ) (x : A) (rest : List A) → drop k xs ≡ x ∷ rest → k < length xs
  within xs k x rest is = slice_get_within xs k x (listed xs k x rest is)

  -- what holds of none of the first holds of none of one more
  pub passed_more : (xs : List A) (P : A → Type 0) (k : ℕ) (x : A) → slice_get xs k ≡ Some x → ¬ P x
      → ((j : ℕ) (y : A) → j < k → slice_get xs j ≡ Some y → ¬ P y) → (j : ℕ) (y : A) → j < k + 1 → slice_get xs j ≡ Some y → ¬ P y
  passed_more xs P k x at none before j y less is =
      let Passed : ℕ → Type 0 = λ i. (z : A) → slice_get xs i ≡ Some z → ¬ P z in
      let earlier : (i : ℕ) → i < k → Passed i = λ i below z there. before i z below there in
      let here : Passed k = λ z there has. none (subst P (same_Some z x (sym there ∙ at)) has) in
      below_more Passed k earlier here j less y is

  pub ended : (xs : List A) (k : ℕ) → drop k xs ≡ [] → length xs ≤ k
  ended [] k is = omega arith
  ended (y ∷ xs) zero is = absurd (cc)
  ended (y ∷ xs) (suc k) is = let less = ended xs k is in omega (arith, less)

-- what holds of a number holds of it where it is counted
pub when_some : (P : ℕ → Type 0) (n : ℕ) (o : Option ℕ) → IfSome o (λ k. k ≡ n) → P n → IfSome o P
when_some P n None is has = tt
when_some P n (Some k) is has = subst P (sym is) has

-- what is at an index of a mapped list
pub mapped : {A B : Type 0} (f : A → B) (xs : List A) (k : ℕ) (y : B) → slice_get (map f xs) k ≡ Some y → (x : A) × (f x ≡ y)
mapped f [] k y is = absurd (cc)
mapped f (x ∷ xs) zero y is = let same : f x ≡ y = cc in (x, same)
mapped f (x ∷ xs) (suc k) y is = mapped f xs k y is

-- places that both of two ranges have, where all are moved by so much, and held below 2^64
pub moved_first : (by start place : ℕ) → start ≤ place → min (by + start) (2 ^ 64 - 1) ≤ min (by + place) (2 ^ 64 - 1)
moved_first by start place at = omega arith
