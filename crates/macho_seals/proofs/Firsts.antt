-- The first of so many items with a fact, at the least place: no later item is before it.
use Rattle.std.proofs.Common.{◌≡◌, ℕ, ◌+◌, ◌≤◌, ◌<◌, None, Some, refl, ap, subst, arith, inl, inr}
use Rattle.std.proofs.lemmas.Bool.{cases_lt}
use Rattle.macho_fields.specs.FirstPlace.{IsLeastPlace}
use Rattle.macho_tables.specs.Items.{AtItem}

module _ (place_of : ℕ → ℕ) (count : ℕ) (P : ℕ → Type 0) where
  pub first_at : (k : ℕ) → k < count → ((j : ℕ) → k < j → j < count → place_of k ≤ place_of j) → P k → ((j : ℕ) → j < k → ¬ P j)
      → IsLeastPlace (AtItem place_of count P) (Some (place_of k))
  first_at k less rise here none = ((k, less, refl, here), least)
    where
      least : (place : ℕ) → AtItem place_of count P place → place_of k ≤ place
      least place (j, below, at, has) = elim (cases_lt j k) [
        | inl before ↦ absurd (none j before has)
        | inr after ↦ elim (cases_lt k j) [
          | inl past ↦ let up = rise j past below in omega (arith, up, at)
          | inr same ↦ let is : place_of j ≡ place_of k = ap place_of (let one : j ≡ k = omega (arith, after, same) in one) in omega (arith, at, is)
        ]
      ]

  pub none_at : ((j : ℕ) → j < count → ¬ P j) → IsLeastPlace (AtItem place_of count P) None
  none_at none place (j, below, at, has) = none j below has

-- one item more is without the fact
pub none_more : (P : ℕ → Type 0) (k : ℕ) → ((j : ℕ) → j < k → ¬ P j) → ¬ P k → (j : ℕ) → j < k + 1 → ¬ P j
none_more P k none here j less has = elim (cases_lt j k) [
  | inl before ↦ none j before has
  | inr late ↦ let same : j ≡ k = omega (arith, less, late) in here (subst P same has)
]
