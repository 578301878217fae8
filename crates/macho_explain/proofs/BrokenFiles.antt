-- What a rule of the entries of a universal file is about is there, where the rule is broken.
use Rattle.std.proofs.Common.{◌≡◌, ℕ, ◌+◌, ◌≤◌, ◌<◌, List, length, arith, inl, inr, refl, sym}
use Rattle.std.proofs.lemmas.Bool.{cases_lt}
use Rattle.macho_fields.proofs.Slices.{some_entry}
use Rattle.macho_fields.specs.First.{rank}
use Rattle.macho_fields.specs.Layers.{KeptBelow}
use Rattle.macho_fields.specs.Rules.{AtEntry, BreaksFile}
use Rattle.macho_fields.specs.Universal.{FileSlice, IsForeign, IsUniversal, entry_place, entry_slice, slice_bytes}
use Rattle.macho_fields.specs.declared.rule.Rule.TheVariants as rule
use Rattle.macho_explain.proofs.FirstImages.{has_table}
use Rattle.macho_explain.specs.Entries.{HasEntry, HasEntryWith, HasForeign, HasTable}

module _ (file : List ℕ) (n : ℕ) (late : rank rule.FatTruncated < n) (kept : KeptBelow (BreaksFile file) n) where
  table : IsUniversal file → HasTable file
  table universal = has_table file universal (λ r place less. kept r place (omega (arith, less, late)))

  pub entry_with : (P : List ℕ → ℕ → Type 0) (place : ℕ) → IsUniversal file × AtEntry file (P file) place → HasEntryWith P file place
  entry_with P place (universal, at) = (table universal, at)

  pub entry : (P : ℕ → Type 0) (place : ℕ) → IsUniversal file × AtEntry file P place → HasEntry file place
  entry P place (universal, (k, less, at, is)) = (table universal, (k, less, at, tt))

pub foreign : (file : List ℕ) (place : ℕ) → KeptBelow (BreaksFile file) (rank rule.FatSliceMagic) → BreaksFile file rule.FatSliceMagic place → HasForeign file place
foreign file place kept (universal, any) =
    let (k, less, (start, none)) = some_entry file (λ (slice : FileSlice). (place ≡ slice.start) × IsForeign (slice_bytes file slice)) universal any in
    let inside : (entry_slice file k).start + (entry_slice file k).size ≤ length file = elim (cases_lt (length file) ((entry_slice file k).start + (entry_slice file k).size)) [
      | inl past ↦ absurd (kept rule.FatSliceOutside (entry_place file k) (omega arith) (universal, (k, less, refl, past)))
      | inr within ↦ within
    ] in
    (table file (rank rule.FatSliceMagic) (omega arith) kept universal, (k, less, (sym start, (inside, none))))
