-- The entries of a file that breaks no rule of the layout.
use Rattle.std.proofs.Common.{◌≡◌, ℕ, ◌+◌, ◌*◌, ◌≤◌, ◌<◌, List, length, None, Some, refl, sym, ap, ◌∙◌, subst, arith, inl, inr}
use Rattle.std.specs.Prelude.{slice_get}
use Rattle.std.proofs.lemmas.Bool.{cases_Bool, cases_lt}
use Rattle.std.proofs.lemmas.Option.{same_Some}
use Rattle.macho_fields.specs.First.{IsUnbroken}
use Rattle.macho_fields.specs.FirstPlace.{IsLeastPlace}
use Rattle.macho_fields.specs.Universal.{FileSlice, IsUniversal, has_wide_entries, entry_count, entry_place, entry_size, entry_slice, slices_of, table_end}
use Rattle.macho_fields.specs.declared.rule.Rule.TheVariants as rule
use Rattle.macho_fields.proofs.Entries.{Breaks, NoneBelow, ends_inside, place_rises}
use Rattle.macho_fields.proofs.Slices.{slice_count, slice_of_entry}

-- the first entry with P is at the least place
pub least_entry : (file : List ℕ) (P : ℕ → Type 0) (k place : ℕ) → IsUniversal file → k < entry_count file → NoneBelow P k → P k → place ≡ entry_place file k
    → IsLeastPlace (Breaks file P) (Some place)
least_entry file P k place universal less none here at = ((universal, (k, less, at, here)), least)
  where
    least : (other : ℕ) → Breaks file P other → place ≤ other
    least other (u, (i, within, there, broken)) =
        elim (cases_lt i k) [ inl lower ↦ absurd (none i lower broken) | inr most ↦ (let rises = place_rises file k i most in omega (arith, rises, at, there)) ]

-- an entry lies in the table
entry_ends : (file : List ℕ) (k : ℕ) → k < entry_count file → entry_place file k + 20 ≤ table_end file
entry_ends file k less = elim (cases_Bool (has_wide_entries file)) [ inl wide ↦ rw wide (omega arith) | inr narrow ↦ rw narrow (omega arith) ]

module _ (file : List ℕ) (unbroken : IsUnbroken file) (universal : IsUniversal file) where
  pub table_inside : table_end file ≤ length file
  table_inside = elim (cases_lt (length file) (table_end file)) [
    | inl short ↦ absurd (unbroken (record { scope = 0; rule = rule.FatTruncated; place = 4 }) (refl, universal, inr short))
    | inr most ↦ most
  ]

  module _ (k : ℕ) (less : k < length (slices_of file)) where
    pub entry_less : k < entry_count file
    entry_less = omega (arith, less, slice_count file universal)

    -- the slice that is found is the entry's
    pub slice_here : (slice : FileSlice) → Some slice ≡ slice_get (slices_of file) k → slice ≡ entry_slice file k
    slice_here slice is = same_Some slice (entry_slice file k) (is ∙ slice_of_entry file k universal entry_less)

    -- it lies inside the file
    pub slice_inside : (entry_slice file k).start + (entry_slice file k).size ≤ length file
    slice_inside = ends_inside file k universal entry_less (λ place broken. unbroken (record { scope = 0; rule = rule.FatSliceOutside; place = place }) broken)

    -- and so does the entry, whose place is computed
    pub entry_inside : (size : ℕ) → size ≡ entry_size file → (8 + k * size ≡ entry_place file k) × (8 + k * size + 20 ≤ length file)
    entry_inside size is =
        let at : 8 + k * size ≡ entry_place file k = ap (λ n. 8 + k * n) is in
        (at, omega (arith, at, entry_ends file k entry_less, table_inside))

-- what is computed of an entry, by what was read of the table
pub entry_computed : (file bytes : List ℕ) (size k : ℕ) → bytes ≡ file → IsUnbroken file → IsUniversal bytes × (size ≡ entry_size bytes) → k < length (slices_of file)
    → IsUniversal file × (8 + k * size ≡ entry_place file k) × (8 + k * size + 20 ≤ length file) × (k < entry_count file)
entry_computed file bytes size k same unbroken table less =
    let (universal, sized) = subst (λ (b : List ℕ). IsUniversal b × (size ≡ entry_size b)) same table in
    let (at, inside) = entry_inside file unbroken universal k less size sized in
    (universal, at, inside, entry_less file unbroken universal k less)

-- no entry has P
pub no_entry : (file bytes : List ℕ) (P : ℕ → Type 0) (k : ℕ) → bytes ≡ file → IsUniversal bytes → length (slices_of file) ≤ k → NoneBelow P k → IsLeastPlace (Breaks file P) None
no_entry file bytes P k same universal all none place (u, (i, within, there, broken)) =
    let count = slice_count file (subst IsUniversal same universal) in none i (omega (arith, within, all, count)) broken

-- a file that is not universal has none
pub no_table : (file bytes : List ℕ) (P : ℕ → Type 0) → bytes ≡ file → ¬ IsUniversal bytes → IsLeastPlace (Breaks file P) None
no_table file bytes P same none place broken = none (subst IsUniversal (sym same) broken.0)
