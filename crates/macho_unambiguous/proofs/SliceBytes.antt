-- A byte of the file is in one slice, and in the pages of that slice alone.
use Rattle.std.proofs.Common.{◌≡◌, ℕ, ◌%◌, ◌≤◌, ◌<◌, List, refl, sym, subst, arith, inl, inr}
use Rattle.std.proofs.lemmas.Bool.{cases_eq, cases_order}
use Rattle.macho_fields.specs.Rules.{BreaksFile}
use Rattle.macho_fields.specs.Universal.{IsUniversal, HasPlace, entry_count, entry_place, entry_slice}
use Rattle.macho_fields.specs.declared.rule.Rule.TheVariants as rule
use Rattle.macho_readers.specs.Files.{BreaksFatPage, entry_cputype}
use Rattle.macho_readers.specs.Models.{IsInPages, IsSliceOfByte, HasOneSliceOfByte}
use Rattle.macho_readers.specs.Pages.{page_size}
use Rattle.macho_unambiguous.proofs.Rounding.{floor_even}
use Rattle.macho_readers.proofs.SlicePages.{image_long}

module _ (file : List ℕ) (overlap : (place : ℕ) → ¬ BreaksFile file rule.FatOverlap place) (page : (place : ℕ) → ¬ BreaksFatPage file place) (universal : IsUniversal file) where
  abbrev start : ℕ → ℕ
  start k = (entry_slice file k).start

  apart : (j k q : ℕ) → j < k → k < entry_count file → HasPlace (entry_slice file j) q → HasPlace (entry_slice file k) q → ⊥
  apart j k q before less here there = overlap (entry_place file k) (universal, (k, less, refl, (j, before, (q, here, there))))

  -- two slices with a place are one
  alone : (j k q : ℕ) → j < entry_count file → k < entry_count file → HasPlace (entry_slice file j) q → HasPlace (entry_slice file k) q → j ≡ k
  alone j k q less_j less_k here there = elim (cases_order j k) [
    | inl same ↦ same
    | inr (inl before) ↦ absurd (apart j k q before less_k here there)
    | inr (inr after) ↦ absurd (apart k j q after less_j there here)
  ]

  module _ (k place : ℕ) (less : k < entry_count file) (pages : IsInPages file k place) where
    -- the slice begins at the place or before it
    from_start : start k ≤ place
    from_start = elim (cases_eq (start k % page_size (entry_cputype file k)) 0) [
      | inl even ↦ (let same = floor_even (entry_cputype file k) (start k) even in let low = pages.1 in omega (arith, same, low))
      | inr off ↦ absurd (page (entry_place file k) (universal, (k, less, refl, (pages.0, inl off))))
    ]

    -- no other one begins after it and before the place
    none_between : (j : ℕ) → j < entry_count file → start k < start j → start j ≤ place → ⊥
    none_between j less_j after by =
        let high = pages.2 in page (entry_place file k) (universal, (k, less, refl, (pages.0, inr (j, less_j, after, omega (arith, by, high)))))

    has_start : HasPlace (entry_slice file k) (start k)
    has_start = let long = image_long file k pages.0 in (omega arith, omega (arith, long))

  place_pages : (j k place : ℕ) → j < entry_count file → k < entry_count file → HasPlace (entry_slice file j) place → IsInPages file k place → j ≡ k
  place_pages j k place less_j less_k (low, high) pages =
      let from = from_start k place less_k pages in
      elim (cases_order (start j) (start k)) [
        | inl same ↦ alone j k (start k) less_j less_k (omega (arith, same), omega (arith, from, high)) (has_start k place less_k pages)
        | inr (inl before) ↦ alone j k (start k) less_j less_k (omega (arith, before), omega (arith, from, high)) (has_start k place less_k pages)
        | inr (inr after) ↦ absurd (none_between k place less_k pages j less_j after low)
      ]

  pages_pages : (j k place : ℕ) → j < entry_count file → k < entry_count file → IsInPages file j place → IsInPages file k place → j ≡ k
  pages_pages j k place less_j less_k pages_j pages_k = elim (cases_order (start j) (start k)) [
    | inl same ↦ alone j k (start k) less_j less_k (subst (HasPlace (entry_slice file j)) same (has_start j place less_j pages_j)) (has_start k place less_k pages_k)
    | inr (inl before) ↦ absurd (none_between j place less_j pages_j k less_k before (from_start k place less_k pages_k))
    | inr (inr after) ↦ absurd (none_between k place less_k pages_k j less_j after (from_start j place less_j pages_j))
  ]

  one : (place j k : ℕ) → IsSliceOfByte file place j → IsSliceOfByte file place k → j ≡ k
  one place j k (less_j, inl here) (less_k, inl there) = alone j k place less_j less_k here there
  one place j k (less_j, inl here) (less_k, inr pages) = place_pages j k place less_j less_k here pages
  one place j k (less_j, inr pages) (less_k, inl there) = sym (place_pages k j place less_k less_j there pages)
  one place j k (less_j, inr pages_j) (less_k, inr pages_k) = pages_pages j k place less_j less_k pages_j pages_k

pub one_slice : (file : List ℕ) → ((place : ℕ) → ¬ BreaksFile file rule.FatOverlap place) → ((place : ℕ) → ¬ BreaksFatPage file place) → HasOneSliceOfByte file
one_slice file overlap page universal place j k = one file overlap page universal place j k
