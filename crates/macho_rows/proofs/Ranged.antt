-- The next row of a table whose items can be reached by their index.
use Rattle.std.proofs.Common.{◌≡◌, ◌∙◌, ℕ, zero, suc, ◌+◌, ◌*◌, ◌≤◌, ◌<◌, List, [], ◌∷◌, length, map, take, drop, Option, None, Some, slice_get, inl, inr, refl, sym, ap, subst, arith}
use Rattle.std.specs.Iterator.{YieldsFirst}
use Rattle.std.specs.Prelude.{nat_le}
use Rattle.std.proofs.Math.Nat.{mul_comm, le-mul_of_pos_right}
use Rattle.std.proofs.lemmas.Bool.{cases_Bool, leb-true}
use Rattle.std.proofs.lemmas.List.FromFn.{length-map-range_with_len}
use Rattle.macho_image.specs.Symbol.{items_inside}

module _ {A B : Type 0} (row : A → B) where
  pub none_left : (all : List A) (k : ℕ) → [] ≡ take 1 (drop k all) → drop k (map row all) ≡ []
  none_left [] zero is = refl
  none_left (x ∷ all) zero is = absurd (cc)
  none_left [] (suc k) is = refl
  none_left (x ∷ all) (suc k) is = none_left all k is

  pub one_left : (all : List A) (k : ℕ) (x : A) (rest : List A) → x ∷ rest ≡ take 1 (drop k all) → drop k (map row all) ≡ row x ∷ drop (k + 1) (map row all)
  one_left [] zero x rest is = absurd (cc)
  one_left (y ∷ all) zero x rest is = let same : x ≡ y = cc in ap (λ z. row z ∷ map row all) (sym same)
  one_left [] (suc k) x rest is = absurd (cc)
  one_left (y ∷ all) (suc k) x rest is = let next : suc k + 1 ≡ suc (k + 1) = omega arith in rw next (one_left all k x rest is)

  pub within : (all : List A) (k : ℕ) (x : A) (rest : List A) → x ∷ rest ≡ take 1 (drop k all) → k < length all
  within [] zero x rest is = absurd (cc)
  within (y ∷ all) zero x rest is = omega arith
  within [] (suc k) x rest is = absurd (cc)
  within (y ∷ all) (suc k) x rest is = let less = within all k x rest is in omega (arith, less)

-- one item of a list, taken alone, is the one with its index
none_at : {A : Type 0} (all : List A) (k : ℕ) → [] ≡ take 1 (drop k all) → slice_get all k ≡ None
none_at [] zero is = refl
none_at (x ∷ all) zero is = absurd (cc)
none_at [] (suc k) is = refl
none_at (x ∷ all) (suc k) is = none_at all k is

one_at : {A : Type 0} (all : List A) (k : ℕ) (x : A) (rest : List A) → x ∷ rest ≡ take 1 (drop k all) → slice_get all k ≡ Some x
one_at [] zero x rest is = absurd (cc)
one_at (y ∷ all) zero x rest is = let same : x ≡ y = cc in ap Some (sym same)
one_at [] (suc k) x rest is = absurd (cc)
one_at (y ∷ all) (suc k) x rest is = one_at all k x rest is

pub read_at : {A : Type 0} (all : List A) (k : ℕ) (some : List A) (result : Option A) (rest : List A) → some ≡ take 1 (drop k all) → YieldsFirst (λ left. left) some result rest → result ≡ slice_get all k
read_at all k some None rest is steps = sym (none_at all k (sym steps.0 ∙ is))
read_at all k some (Some x) rest is steps = sym (one_at all k x rest (sym steps ∙ is))

-- the items of a table inside an image are no more than its bytes
pub items_few : (image : List ℕ) (start each n : ℕ) → 1 ≤ each → length (items_inside image start each n) ≤ length image
items_few image start each n some = elim (cases_Bool (nat_le (start + each * n) (length image))) [
  | inl inside ↦ rw inside (let fits = leb-true _ _ inside in let many : n ≤ each * n = subst (λ m. n ≤ m) (mul_comm n each) (le-mul_of_pos_right {m = each} n some) in omega (arith, fits, many, length-map-range_with_len (λ k. start + each * k) 0 n))
  | inr past ↦ rw past (omega arith)
]
