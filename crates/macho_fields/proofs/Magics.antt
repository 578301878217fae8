-- The magic numbers of slices: the least place of a foreign slice, and whether a slice is read.
use Rattle.std.proofs.Common.{◌≡◌, ℕ, ◌+◌, ◌≤◌, ◌<◌, ◌⊎◌, List, Option, Some, None, MatchOption, Any, ap, ◌∙◌, subst, arith, inl, inr}
use Rattle.std.proofs.lemmas.Bool.{cases_lt}
use Rattle.macho_fields.specs.Universal.{FileSlice, IsUniversal, IsImage, IsForeign, entry_count, entry_slice, slice_bytes, slices_of}
use Rattle.macho_fields.specs.Rules.{BreaksFile}
use Rattle.macho_fields.specs.declared.rule.Rule.TheVariants as rule
use Rattle.macho_fields.proofs.Entries.{NoneBelow, none_more}
use Rattle.macho_fields.proofs.Slices.{some_entry, some_slice, each_slice}

-- the slice of entry k begins with the magic number of no image
abbrev pub IsForeignEntry : List ℕ → ℕ → Type 0
IsForeignEntry file k = IsForeign (slice_bytes file (entry_slice file k))

-- the place is the least at which one of the first entries has a foreign slice
pub record IsLeastForeign (file : List ℕ) (k place : ℕ) : Type 0 where
  pub there : (i : ℕ) × (i < k) × (place ≡ (entry_slice file i).start) × IsForeignEntry file i
  pub least : (i : ℕ) → i < k → IsForeignEntry file i → place ≤ (entry_slice file i).start

-- the answer is the least such place of the first entries, if there is one
abbrev pub DecidesForeign : List ℕ → ℕ → Option ℕ → Type 0
DecidesForeign file k answer = MatchOption answer (NoneBelow (IsForeignEntry file) k) (IsLeastForeign file k)

pub none_foreign : (file : List ℕ) (k : ℕ) (answer : Option ℕ) → DecidesForeign file k answer → ¬ IsForeignEntry file k → DecidesForeign file (k + 1) answer
none_foreign file k None none here = none_more (IsForeignEntry file) k none here
none_foreign file k (Some place) is here = record { there = there; least = least }
  where
    there : (i : ℕ) × (i < k + 1) × (place ≡ (entry_slice file i).start) × IsForeignEntry file i
    there = let (i, less, at, foreign) = is.there in (i, omega arith, at, foreign)

    least : (i : ℕ) → i < k + 1 → IsForeignEntry file i → place ≤ (entry_slice file i).start
    least i less foreign =
        elim (cases_lt i k) [ inl lower ↦ is.least i lower foreign | inr most ↦ (let same : i ≡ k = omega arith in absurd (here (subst (IsForeignEntry file) same foreign))) ]

pub first_foreign : (file : List ℕ) (k start : ℕ) → start ≡ (entry_slice file k).start → NoneBelow (IsForeignEntry file) k → IsForeignEntry file k → IsLeastForeign file (k + 1) start
first_foreign file k start at none here = record { there = (k, omega arith, at, here); least = least }
  where
    least : (i : ℕ) → i < k + 1 → IsForeignEntry file i → start ≤ (entry_slice file i).start
    least i less foreign =
        elim (cases_lt i k) [ inl lower ↦ absurd (none i lower foreign) | inr most ↦ (let same : i ≡ k = omega arith in omega (arith, at, ap (λ n. (entry_slice file n).start) same)) ]

-- the lesser of the least place and the place of one more foreign slice
pub more_foreign : (file : List ℕ) (k start place next : ℕ) → start ≡ (entry_slice file k).start → IsLeastForeign file k place → IsForeignEntry file k → next ≤ place → next ≤ start
    → (next ≡ place) ⊎ (next ≡ start) → IsLeastForeign file (k + 1) next
more_foreign file k start place next at is here low below one = record { there = there one; least = least }
  where
    there : (next ≡ place) ⊎ (next ≡ start) → (i : ℕ) × (i < k + 1) × (next ≡ (entry_slice file i).start) × IsForeignEntry file i
    there (inl same) = let (i, less, begins, foreign) = is.there in (i, omega arith, same ∙ begins, foreign)
    there (inr same) = (k, omega arith, same ∙ at, here)

    least : (i : ℕ) → i < k + 1 → IsForeignEntry file i → next ≤ (entry_slice file i).start
    least i less foreign =
        elim (cases_lt i k) [
          | inl lower ↦ (let most = is.least i lower foreign in omega arith)
          | inr most ↦ (let same : i ≡ k = omega arith in omega (arith, at, ap (λ n. (entry_slice file n).start) same))
        ]

-- a slice at the place begins with the magic number of no image
abbrev HasForeign : List ℕ → ℕ → FileSlice → Type 0
HasForeign file place slice = (place ≡ slice.start) × IsForeign (slice_bytes file slice)

-- the rule is broken at the least place of a foreign slice
pub foreign_broken : (file : List ℕ) (k place : ℕ) → k ≡ entry_count file → IsUniversal file → IsLeastForeign file k place
    → BreaksFile file rule.FatSliceMagic place × ((other : ℕ) → BreaksFile file rule.FatSliceMagic other → place ≤ other)
foreign_broken file k place all universal is = ((universal, here), least)
  where
    here : Any (HasForeign file place) (slices_of file)
    here = let (i, less, at, foreign) = is.there in some_slice file (HasForeign file place) i universal (omega (arith, all)) (at, foreign)

    least : (other : ℕ) → BreaksFile file rule.FatSliceMagic other → place ≤ other
    least other (u, any) =
        let (i, less, (at, foreign)) = some_entry file (HasForeign file other) universal any in
        let most = is.least i (omega (arith, all)) foreign in omega (arith, at, most)

pub foreign_kept : (file : List ℕ) (k : ℕ) → k ≡ entry_count file → NoneBelow (IsForeignEntry file) k → (place : ℕ) → ¬ BreaksFile file rule.FatSliceMagic place
foreign_kept file k all none place (universal, any) =
    let (i, less, (at, foreign)) = some_entry file (HasForeign file place) universal any in
    none i (omega (arith, all)) foreign

-- no slice of the first entries is read
abbrev pub IsRead : List ℕ → ℕ → Type 0
IsRead file k = IsImage (slice_bytes file (entry_slice file k))

pub empty_broken : (file : List ℕ) (k place : ℕ) → place ≡ 4 → k ≡ entry_count file → IsUniversal file → NoneBelow (IsRead file) k → BreaksFile file rule.FatEmpty place
empty_broken file k place at all universal none = (at, universal, each_slice file (λ slice. ¬ IsImage (slice_bytes file slice)) universal (λ i less. none i (omega (arith, all))))
