-- From the answers on a file to the sealed verdict.
use Rattle.std.proofs.Common.{ℕ, suc, zero, List, Option, None, Some, IsSomeAnd, slice_get, get_or, inl, inr}
use Rattle.macho_fields.specs.First.{IsUnbroken}
use Rattle.macho_fields.specs.Layers.{NothingBreaks}
use Rattle.macho_fields.specs.Rules.{BreaksImage as LayoutImage}
use Rattle.macho_fields.specs.Universal.{FileSlice, slices_of, slice_bytes, OfEachImage}
use Rattle.macho_rules.specs.Profile.{NoFileRule, TakesInSlice, IsRefusalOfImages}
use Rattle.macho_rules.specs.declared.refusal.Refusal.{Refusal}
use Rattle.macho_rules.specs.declared.refusal.Refusal.TheVariants as refusal
use Rattle.macho_rules.proofs.Profiles.{layout_keeps, images_keep}
use Rattle.macho_linked.specs.Rules.{BreaksImage as LinkedImage, IsLinkedUnbroken}
use Rattle.macho_sealed.specs.Rules.{BreaksImage, IsSealedUnbroken}
use Rattle.macho_sealed.specs.Verdict.{IsUnbrokenBefore, IsSealedRefusal, TakesMemory}
use Rattle.macho_unambiguous.specs.Verdict.{IsUnambiguousRefusal}

-- a refusal by the unambiguous verdict is one of the sealed
pub unambiguous_refused : (file : List ℕ) (r : Refusal) → IsUnambiguousRefusal file r → IsSealedRefusal file r
unambiguous_refused file (refusal.Broken b) refused = inl refused
unambiguous_refused file refusal.Memory takes = takes

-- and so is one by the sealed rules, where the file breaks no other
pub sealed_refused : (file : List ℕ) → IsUnbrokenBefore file → (r : Refusal) → IsRefusalOfImages BreaksImage file TakesMemory r → IsSealedRefusal file r
sealed_refused file unbroken (refusal.Broken b) first = inr (unbroken, first)
sealed_refused file unbroken refusal.Memory (scope, takes) = absurd (none scope takes)
  where
    none : (n : ℕ) → ¬ TakesInSlice TakesMemory file n
    none zero takes = takes
    none (suc k) takes = none_of (slice_get (slices_of file) k) takes
      where
        none_of : (slice : Option FileSlice) → ¬ IsSomeAnd slice (λ s. TakesMemory (slice_bytes file s))
        none_of None takes = takes
        none_of (Some s) takes = takes

-- what holds of each image that breaks no rule holds of the images of such a file
pub of_images : (P : List ℕ → Type 0) → ((image : List ℕ) → NothingBreaks (LayoutImage image None) → NothingBreaks (LinkedImage image) → NothingBreaks (BreaksImage image) → P image)
    → (file : List ℕ) → IsUnbroken file → IsLinkedUnbroken file → IsSealedUnbroken file → OfEachImage P file
of_images P each file unbroken linked sealed k d less image =
    each (slice_bytes file (get_or (slices_of file) k d)) (layout_keeps file unbroken k d less image) (images_keep file NoFileRule LinkedImage linked k d less image)
    (images_keep file NoFileRule BreaksImage sealed k d less image)
