-- The first broken rule of a file, scope by scope: the file itself, and then its slices.
use Rattle.std.proofs.Common.{◌≡◌, ℕ, suc, zero, ◌+◌, ◌<◌, List, Option, Some, length, slice_get, ap, subst, arith, inl, inr}
use Rattle.std.specs.Option.{option_map_or}
use Rattle.std.proofs.lemmas.Bool.{cases_lt}
use Rattle.std.proofs.lemmas.Option.{slice_get_past}
use Rattle.macho_fields.specs.First.{Fault, BreaksIn, IsBefore, IsFirstOfAll, NoneIsBroken, scope_start}
use Rattle.macho_fields.specs.Layers.{IsLeast, NothingBreaks}
use Rattle.macho_fields.specs.Universal.{FileSlice, slices_of, slice_bytes, IsImage, HasImage}
use Rattle.macho_fields.specs.declared.rule.Rule.{Rule}
use Rattle.macho_fields.specs.declared.rule.Break.{Break}
use Rattle.macho_fields.proofs.Options.{some_of, some_has, of_some, of_none}

-- the place from which the places of a slice are counted
pub slice_start : (file : List ℕ) (k : ℕ) (slice : FileSlice) → slice_get (slices_of file) k ≡ Some slice → scope_start file (suc k) ≡ slice.start
slice_start file k slice is = ap (λ (o : Option FileSlice). option_map_or (λ s. s.start) o 0) is

-- What is broken in a scope, by the rules of a profile
module _ (Breaks : List ℕ → Rule → ℕ → Type 0) (ImageBreaks : List ℕ → Option (ℕ × ℕ) → Rule → ℕ → Type 0) (file : List ℕ) where
  -- the slice is an image that breaks the rule at the place
  abbrev pub SliceBreaks : Rule → ℕ → FileSlice → Type 0
  SliceBreaks r place slice = IsImage (slice_bytes file slice) × ImageBreaks (slice_bytes file slice) slice.arch r place

  abbrev BrokenIn : ℕ → Rule → ℕ → Type 0
  BrokenIn = BreaksIn Breaks ImageBreaks file

  -- What is broken in the scope of a slice is what its image breaks
  module _ (k : ℕ) (slice : FileSlice) (is : slice_get (slices_of file) k ≡ Some slice) where
    in_slice : (r : Rule) (place : ℕ) → BrokenIn (suc k) r place → ImageBreaks (slice_bytes file slice) slice.arch r place
    in_slice r place broken = (some_has (SliceBreaks r place) (slice_get (slices_of file) k) slice is broken).1

    pub of_slice : IsImage (slice_bytes file slice) → (r : Rule) (place : ℕ) → ImageBreaks (slice_bytes file slice) slice.arch r place → BrokenIn (suc k) r place
    of_slice image r place broken = of_some (SliceBreaks r place) (slice_get (slices_of file) k) slice is (image, broken)

    pub slice_unbroken : NothingBreaks (ImageBreaks (slice_bytes file slice) slice.arch) → NothingBreaks (BrokenIn (suc k))
    slice_unbroken none r place broken = none r place (in_slice r place broken)

    pub slice_least : IsImage (slice_bytes file slice) → (b : Break) → IsLeast (ImageBreaks (slice_bytes file slice) slice.arch) b → IsLeast (BrokenIn (suc k)) b
    slice_least image b (here, least) = (of_slice image b.rule b.place here, λ r place broken. least r place (in_slice r place broken))

  -- a slice without an image breaks nothing
  pub other_unbroken : (k : ℕ) → ¬ HasImage file k → NothingBreaks (BrokenIn (suc k))
  other_unbroken k none r place broken =
      let (slice, is, (image, here)) = some_of (SliceBreaks r place) (slice_get (slices_of file) k) broken in
      none (of_some (λ s. IsImage (slice_bytes file s)) (slice_get (slices_of file) k) slice is image)

  -- nothing is broken in the first n scopes
  abbrev pub KeptScopes : ℕ → Type 0
  KeptScopes n = (scope : ℕ) (r : Rule) (place : ℕ) → scope < n → ¬ BrokenIn scope r place

  pub none_kept : KeptScopes 0
  none_kept scope r place less broken = absurd (omega arith)

  pub one_more : (n : ℕ) → KeptScopes n → NothingBreaks (BrokenIn n) → KeptScopes (n + 1)
  one_more n kept none scope r place less broken = elim (cases_lt scope n) [
    | inl lower ↦ kept scope r place lower broken
    | inr most ↦ none r place (subst (λ s. BrokenIn s r place) (let same : scope ≡ n = omega arith in same) broken)
  ]

  -- no scope is left after the last slice
  pub all_kept : KeptScopes (length (slices_of file) + 1) → NoneIsBroken BrokenIn
  all_kept kept fault broken = within fault.scope fault.rule fault.place broken
    where
      within : (scope : ℕ) (r : Rule) (place : ℕ) → ¬ BrokenIn scope r place
      within zero r place h = kept 0 r place (omega arith) h
      within (suc k) r place h = elim (cases_lt k (length (slices_of file))) [
        | inl less ↦ kept (suc k) r place (omega arith) h
        | inr past ↦ of_none (SliceBreaks r place) (slice_get (slices_of file) k) (slice_get_past (slices_of file) k past) h
      ]

  -- the first break of a scope is the first of all, where nothing is broken in the scopes before it
  pub scope_first : (n : ℕ) (found b : Break) → KeptScopes n → IsLeast (BrokenIn n) found → b.rule ≡ found.rule
      → b.place ≡ scope_start file n + found.place → IsFirstOfAll BrokenIn file b
  scope_first n found b kept (here, least) same_rule same_place = (fault, here, none_before, same_rule, same_place)
    where
      fault : Fault
      fault = record { scope = n; rule = found.rule; place = found.place }

      none_before : (other : Fault) → BrokenIn other.scope other.rule other.place → ¬ IsBefore other fault
      none_before other broken (inl less) = kept other.scope other.rule other.place less broken
      none_before other broken (inr (same, later)) = least other.rule other.place (subst (λ s. BrokenIn s other.rule other.place) same broken) later
