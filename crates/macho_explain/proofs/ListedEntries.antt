-- The slices of a universal file that has its whole table.
use Rattle.std.proofs.Common.{◌≡◌, ◌≢◌, ◌∙◌, ℕ, ◌+◌, ◌*◌, ◌≤◌, ◌<◌, List, Option, None, Some, ap, arith, inl, inr, subst, sym}
use Rattle.std.specs.Prelude.{slice_get, MatchOption}
use Rattle.std.specs.Option.{option_map}
use Rattle.std.proofs.lemmas.Bool.{cases_Bool, cases_lt}
use Rattle.std.proofs.lemmas.Option.{none-some, same_Some}
use Rattle.macho_fields.specs.Rules.{AtEntry}
use Rattle.macho_fields.specs.Universal.{FileSlice, HasPlace, SharePlace, WithEarlier, entry_count, entry_place, entry_slice, has_wide_entries, slices_of}
use Rattle.macho_fields.proofs.Slices.{slice_of_entry}
use Rattle.macho_fat.specs.Slices.{slice_of}
use Rattle.macho_fat.specs.declared.slice.Slice.{Slice}
use Rattle.macho_spans.specs.Span.{Shares}
use Rattle.macho_explain.specs.Entries.{HasTable, HaveSameArch, NoneBefore, ShareEntries}

module _ (file : List ℕ) (index : ℕ) where
  -- what is listed at an index
  pub listed_at : (found : Option Slice) → option_map slice_of found ≡ slice_get (slices_of file) index
      → MatchOption found (HasTable file → entry_count file ≤ index) (λ slice. slice_get (slices_of file) index ≡ Some (slice_of slice))
  listed_at None is = λ has. elim (cases_lt index (entry_count file)) [
    | inl less ↦ absurd (none-some (entry_slice file index) (is ∙ slice_of_entry file index has.universal less))
    | inr past ↦ past
  ]
  listed_at (Some slice) is = sym is

  -- is the slice of the entry
  pub entry_is : (slice : Slice) → HasTable file → index < entry_count file → slice_get (slices_of file) index ≡ Some (slice_of slice) → slice_of slice ≡ entry_slice file index
  entry_is slice has less listed = same_Some (slice_of slice) (entry_slice file index) (sym listed ∙ slice_of_entry file index has.universal less)

-- an entry is by its place
pub same_entry : (file : List ℕ) (j k : ℕ) → entry_place file j ≡ entry_place file k → j ≡ k
same_entry file j k same = elim (cases_Bool (has_wide_entries file)) [
  | inl wide ↦ let places : 8 + j * 32 ≡ 8 + k * 32 = rw wide at same in omega (arith, places)
  | inr narrow ↦ let places : 8 + j * 20 ≡ 8 + k * 20 = rw narrow at same in omega (arith, places)
]

-- no entry before the one at the place has R with it
pub none_earlier : (R : ℕ → ℕ → Type 0) (file : List ℕ) (place index : ℕ) → (HasTable file → (index < entry_count file) × (place ≡ entry_place file index))
    → (HasTable file → NoneBefore R index index) → ¬ (HasTable file × AtEntry file (WithEarlier R) place)
none_earlier R file place index at none (has, (k, less, there, (i, before, is))) =
    let same : k ≡ index = same_entry file k index (sym there ∙ (at has).1) in
    none has i (subst (λ n. i < n) same before) (subst (R i) same is)

module _ (file : List ℕ) (j k : ℕ) (one other : Slice) (first : slice_of one ≡ entry_slice file j) (second : slice_of other ≡ entry_slice file k) where
  -- slices that share no place
  pub apart : ¬ Shares other.span one.span → ¬ ShareEntries file j k
  apart none share =
      let (place, here, there) = subst (λ s. SharePlace s (entry_slice file k)) (sym first) share in
      none (place, subst (λ s. HasPlace s place) (sym second) there, here)

  -- architectures with other numbers
  pub other_arch : (a b : ℕ × ℕ) → one.arch ≡ Some a → other.arch ≡ Some b → a ≢ b → ¬ HaveSameArch file j k
  other_arch a b of_one of_other differ same =
      let own : (entry_slice file j).arch ≡ Some a = ap (λ (s : FileSlice). s.arch) (sym first) ∙ of_one in
      let its : (entry_slice file k).arch ≡ Some b = ap (λ (s : FileSlice). s.arch) (sym second) ∙ of_other in
      differ (same_Some a b (sym own ∙ (same ∙ its)))

-- a slice of the table has an architecture
pub has_arch : (file : List ℕ) (index : ℕ) (slice : Slice) → HasTable file → index < entry_count file → slice_get (slices_of file) index ≡ Some (slice_of slice) → ¬ (slice.arch ≡ None)
has_arch file index slice has less listed none =
    none-some _ (sym none ∙ ap (λ (s : FileSlice). s.arch) (entry_is file index slice has less listed))
