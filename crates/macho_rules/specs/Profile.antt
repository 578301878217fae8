-- What a profile adds to the layout: rules that an image breaks, and in one profile the file itself; and
-- where the verdict by these takes memory.
use Rattle.std.specs.Prelude.{◌≡◌, ℕ, suc, zero, ◌+◌, ◌≤◌, List, length, slice_get, Option, IsSomeAnd}
use Rattle.macho_fields.specs.First.{BreaksIn, IsFirstOfAll, NoneIsBroken, scope_start}
use Rattle.macho_fields.specs.Layers.{IsLeast, NothingBreaks}
use Rattle.macho_fields.specs.Universal.{slices_of, slice_bytes}
use Rattle.macho_fields.specs.declared.rule.Break.{Break}
use Rattle.macho_fields.specs.declared.rule.Rule.{Rule}
use Rattle.macho_rules.specs.declared.refusal.Refusal.{Refusal}
use Rattle.macho_rules.specs.declared.refusal.Refusal.TheVariants as refusal

-- a file itself breaks no rule of a profile that judges its images alone
abbrev pub NoFileRule : List ℕ → Rule → ℕ → Type 0
NoFileRule file r place = ⊥

-- Of a profile, which says where a file itself breaks its rules, and where an image does
module _ (FileBreaks : List ℕ → Rule → ℕ → Type 0) (Breaks : List ℕ → Rule → ℕ → Type 0) where
  -- an image breaks a rule whatever architecture a universal file names for it
  abbrev pub SliceBreaks : List ℕ → Option (ℕ × ℕ) → Rule → ℕ → Type 0
  SliceBreaks image arch = Breaks image

  -- the rule is broken there: by the file itself, or by the bytes of a 64-bit slice
  abbrev pub AddedIn : List ℕ → ℕ → Rule → ℕ → Type 0
  AddedIn = BreaksIn FileBreaks SliceBreaks

-- the place of a refusal lies in the image, or just after its last byte
abbrev pub RefusesInside : List ℕ → Refusal → Type 0
RefusesInside image (refusal.Broken b) = b.place ≤ length image
RefusesInside image refusal.Memory = Unit {0}

-- the image in a slice takes memory, and the file itself takes none
abbrev pub TakesInSlice : (List ℕ → Type 0) → List ℕ → ℕ → Type 0
TakesInSlice TakesMemory file zero = ⊥
TakesInSlice TakesMemory file (suc k) =
    IsSomeAnd (slice_get (slices_of file) k) (λ slice. TakesMemory (slice_bytes file slice))

-- What is broken in each scope of a file, and where judging it takes memory
module _ (BrokenIn : ℕ → Rule → ℕ → Type 0) (TakesIn : ℕ → Type 0) (file : List ℕ) where
  -- a refusal is the first of what is broken, with its place in the file, or that there was no memory,
  -- where a scope takes some
  abbrev pub IsAddedRefusal : Refusal → Type 0
  IsAddedRefusal (refusal.Broken b) = IsFirstOfAll BrokenIn file b
  IsAddedRefusal refusal.Memory = (scope : ℕ) × TakesIn scope

  -- a refusal of a scope is the first of what is broken there, with its place in the file, or that there was
  -- no memory, where it takes some
  abbrev pub IsScopeRefusal : ℕ → Refusal → Type 0
  IsScopeRefusal scope (refusal.Broken b) =
      (found : Break) × IsLeast (BrokenIn scope) found
      × (b.rule ≡ found.rule) × (b.place ≡ scope_start file scope + found.place)
  IsScopeRefusal scope refusal.Memory = TakesIn scope

-- Of a profile that judges images alone, and says where an image breaks a rule
module _ (Breaks : List ℕ → Rule → ℕ → Type 0) (file : List ℕ) where
  -- the image in a slice breaks no rule
  abbrev pub SliceKeeps : ℕ → Type 0
  SliceKeeps k = NothingBreaks (AddedIn NoFileRule Breaks file (suc k))

  -- no image breaks a rule
  abbrev pub NoImageBreaks : Type 0
  NoImageBreaks = NoneIsBroken (AddedIn NoFileRule Breaks file)

  -- and where the verdict on an image takes memory
  module _ (TakesMemory : List ℕ → Type 0) where
    -- a refusal of the image in a slice
    abbrev pub IsRefusalInSlice : ℕ → Refusal → Type 0
    IsRefusalInSlice k = IsScopeRefusal (AddedIn NoFileRule Breaks file) (TakesInSlice TakesMemory file) file (suc k)

    -- a refusal of the images
    abbrev pub IsRefusalOfImages : Refusal → Type 0
    IsRefusalOfImages = IsAddedRefusal (AddedIn NoFileRule Breaks file) (TakesInSlice TakesMemory file) file
