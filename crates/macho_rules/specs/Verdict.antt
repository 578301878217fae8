-- The verdict on a file, on a slice of it and on an image, and where it takes memory.
use Rattle.std.specs.Prelude.{◌≡◌, ◌⊎◌, ℕ, ◌+◌, ◌<◌, List, Any, Option, None, IfSome}
use Rattle.macho_fields.specs.Universal.{FileSlice, slice_bytes, IsImage}
use Rattle.macho_fields.specs.Rules.{BreaksImage}
use Rattle.macho_fields.specs.Field.{part}
use Rattle.macho_fields.specs.First.{rank, IsFirstBroken, IsUnbroken}
use Rattle.macho_fields.specs.Layers.{IsLeast, KeptBelow}
use Rattle.macho_fields.specs.Segment.{all_segments, vmsize}
use Rattle.macho_fields.specs.declared.rule.Rule.{Rule}
use Rattle.macho_fields.specs.declared.rule.Rule.TheVariants as rule
use Rattle.macho_fields.specs.declared.rule.Break.{Break}
use Rattle.macho_fat.specs.Slices.{AreSlices, SlicesTakeMemory}
use Rattle.macho_fat.specs.declared.slice.Slice.{Slice}
use Rattle.macho_fat.specs.declared.fault.FatFault.{FatFault}
use Rattle.macho_fat.specs.declared.fault.FatFault.TheVariants as fault
use Rattle.macho_spans.specs.Overlap.{IsUnordered}
use Rattle.macho_rules.specs.Mapped.{mapped_memory}
use Rattle.macho_image.specs.Walk.{HasLandmarks}
use Rattle.macho_rules.specs.declared.refusal.Refusal.{Refusal}
use Rattle.macho_rules.specs.declared.refusal.Refusal.TheVariants as refusal
use Rattle.macho_rules.specs.declared.verdict.Found.{Found}

-- the image has a mapped segment
abbrev pub HasMapped : List ℕ → Type 0
HasMapped image =
    Any (λ segment. 0 < vmsize image segment) (all_segments image)

-- a refusal is the first of what is broken, or that there was no memory, which is returned only if
-- CanRunOut holds
abbrev pub IsRefusalOf : (Rule → ℕ → Type 0) → Type 0 → Refusal → Type 0
IsRefusalOf breaks CanRunOut (refusal.Broken b) = IsLeast breaks b
IsRefusalOf breaks CanRunOut refusal.Memory = CanRunOut

-- The verdict on an image takes memory: the rules before segment-overlap are unbroken, and the
-- addresses of the mapped segments, at least one, neither ascend nor descend.
abbrev pub ImageTakesMemory : List ℕ → Option (ℕ × ℕ) → Type 0
ImageTakesMemory image arch =
    KeptBelow (BreaksImage image arch) (rank rule.SegmentOverlap) × HasMapped image
    × IsUnordered (mapped_memory image)

-- The verdict on a file takes memory: the file is universal, and its slices take memory; or it is one
-- image, and the verdict on that does. The images of a universal file are judged when none of its own
-- rules is broken, and so its slices take memory already.
abbrev pub FileTakesMemory : List ℕ → Type 0
FileTakesMemory file = SlicesTakeMemory file ⊎ (IsImage file × ImageTakesMemory file None)

-- A refusal of an image is its first broken rule, or that there was no memory, which is returned only
-- if the verdict takes memory.
abbrev pub IsImageRefusal : List ℕ → Option (ℕ × ℕ) → Refusal → Type 0
IsImageRefusal image arch =
    IsRefusalOf (BreaksImage image arch) (ImageTakesMemory image arch)

-- A refusal of a slice is one of its image, with the place of the break in the file.
abbrev pub IsSliceRefusal : List ℕ → FileSlice → Refusal → Type 0
IsSliceRefusal file slice (refusal.Broken b) =
    (found : Break) × IsLeast (BreaksImage (slice_bytes file slice) slice.arch) found
    × (b.rule ≡ found.rule) × (b.place ≡ slice.start + found.place)
IsSliceRefusal file slice refusal.Memory =
    IsImageRefusal (slice_bytes file slice) slice.arch refusal.Memory

-- A refusal of a file is its first broken rule, or that there was no memory, which is reported only
-- if the verdict takes memory.
abbrev pub IsRefusal : List ℕ → Refusal → Type 0
IsRefusal file (refusal.Broken b) = IsFirstBroken file b
IsRefusal file refusal.Memory = FileTakesMemory file

-- a fault of the slices, as a refusal
abbrev pub refusal_of : FatFault → Refusal
refusal_of (fault.Broken b) = refusal.Broken b
refusal_of fault.Memory = refusal.Memory

-- the landmarks belong to the image in the span
abbrev pub WasFound : List ℕ → Found → Type 0
WasFound file found = HasLandmarks (part found.span.start found.span.len file) found.landmarks

-- the file breaks no rule, these are its slices, and this was found of one of its images
pub record HasNoBreak (file : List ℕ) (slices : List Slice) (found : Option Found) : Type 0 where
  pub unbroken : IsUnbroken file
  pub all : AreSlices file slices
  pub last : IfSome found (WasFound file)

unfoldable pub IsVerified : List ℕ → List Slice → Option Found → Type 0
IsVerified file slices found = HasNoBreak file slices found
