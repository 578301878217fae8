-- From the answers on a file, on its slices and on its images to the unambiguous verdict.
use Rattle.std.proofs.Common.{ℕ, suc, zero, List, refl, arith, inl, inr}
use Rattle.macho_fields.specs.Layers.{NothingBreaks}
use Rattle.macho_fields.specs.Universal.{IsUniversal}
use Rattle.macho_fields.proofs.Scopes.{none_kept, scope_first}
use Rattle.macho_linked.specs.Linked.{KeepsLinked}
use Rattle.macho_linked.specs.Verdict.{IsLinkedRefusal}
use Rattle.macho_rules.specs.Profile.{SliceBreaks, TakesInSlice, IsAddedRefusal, IsRefusalOfImages}
use Rattle.macho_rules.specs.Verdict.{IsRefusalOf}
use Rattle.macho_rules.specs.declared.refusal.Refusal.{Refusal}
use Rattle.macho_rules.specs.declared.refusal.Refusal.TheVariants as refusal
use Rattle.macho_rules.proofs.Profiles.{first_with_file}
use Rattle.macho_unambiguous.specs.Rules.{BreaksFile, BreaksImage, IsBrokenIn}
use Rattle.macho_unambiguous.specs.Verdict.{IsUnambiguousRefusal, TakesMemory, TakesMemoryIn}

-- A refusal by the unambiguous rules
module _ (file : List ℕ) where
  abbrev pub IsUnambiguousBreak : Refusal → Type 0
  IsUnambiguousBreak = IsAddedRefusal (IsBrokenIn file) (TakesMemoryIn file) file

  -- of the file itself
  pub file_refused : (f : Refusal) → IsRefusalOf (BreaksFile file) (IsUniversal file) f → IsUnambiguousBreak f
  file_refused (refusal.Broken b) least =
      let slices = SliceBreaks BreaksFile BreaksImage in
      scope_first BreaksFile slices file 0 b b (none_kept BreaksFile slices file) least refl (omega arith)
  file_refused refusal.Memory takes = (0, takes)

  -- of its images, where it breaks none itself
  pub images_refused : NothingBreaks (BreaksFile file) → (f : Refusal) → IsRefusalOfImages BreaksImage file TakesMemory f → IsUnambiguousBreak f
  images_refused kept (refusal.Broken b) first = first_with_file BreaksFile BreaksImage file kept b first
  images_refused kept refusal.Memory (scope, takes) = (scope, in_scope scope takes)
    where
      in_scope : (n : ℕ) → TakesInSlice TakesMemory file n → TakesMemoryIn file n
      in_scope zero none = absurd none
      in_scope (suc k) takes = takes

  -- is one of the unambiguous verdict, where the file breaks no other
  pub unambiguous_refused : KeepsLinked file → (r : Refusal) → IsUnambiguousBreak r → IsUnambiguousRefusal file r
  unambiguous_refused kept (refusal.Broken b) first = inr (kept.layout, kept.strict, kept.linked, first)
  unambiguous_refused kept refusal.Memory takes = inr (kept.layout, kept.strict, kept.linked, takes)

-- and so is one by the linked verdict
pub linked_refused : (file : List ℕ) (r : Refusal) → IsLinkedRefusal file r → IsUnambiguousRefusal file r
linked_refused file (refusal.Broken b) first = inl first
linked_refused file refusal.Memory takes = inl takes
