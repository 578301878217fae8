-- The strict verdict on a file, and where it takes memory.
use Rattle.std.specs.Prelude.{◌≡◌, ℕ, suc, zero, ◌<◌, ◌⊎◌, List, map, true, Any}
use Rattle.macho_fields.specs.First.{IsUnbroken, IsFirstBroken}
use Rattle.macho_spans.specs.Overlap.{IsAscending}
use Rattle.macho_fields.specs.Image.{cpu_type, commands_of, with_cmd}
use Rattle.macho_fields.specs.Segment.{fileoff, filesize}
use Rattle.macho_fields.specs.Universal.{slices_of}
use Rattle.macho_fields.specs.declared.header.loader.TheConstants as loader
use Rattle.macho_spans.specs.declared.span.Span.{Span}
use Rattle.macho_rules.specs.Profile.{TakesInSlice}
use Rattle.macho_rules.specs.Verdict.{FileTakesMemory}
use Rattle.macho_rules.specs.declared.refusal.Refusal.{Refusal}
use Rattle.macho_rules.specs.declared.refusal.Refusal.TheVariants as refusal
use Rattle.macho_strict.specs.Elements.{elements_of}
use Rattle.macho_strict.specs.First.{IsFirstStrictlyBroken}
use Rattle.macho_strict.specs.Gaps.{IsFree}
use Rattle.macho_strict.specs.Nops.{is_nop}
use Rattle.macho_strict.specs.Rules.{all_segments, cryptsize}

-- the places of the slices of a file, in table order
abbrev pub slice_spans : List ℕ → List Span
slice_spans file = map (λ slice. record { start = slice.start; len = slice.size }) (slices_of file)

-- the file parts of the segments of an image, in the order of the commands
abbrev pub file_parts : List ℕ → List Span
file_parts image =
    map (λ segment. record { start = fileoff image segment; len = filesize image segment })
    (all_segments image)

-- the places of the elements of an image, in their order
abbrev pub element_spans : List ℕ → List Span
element_spans image = map (λ element. element.span) (elements_of image)

-- some command has a range that is encrypted
abbrev pub HasEncrypted : List ℕ → Type 0
HasEncrypted image =
    Any (λ command. 0 < cryptsize image command)
    (with_cmd image loader.LC_ENCRYPTION_INFO_64 (commands_of image))

-- a byte of a NOP lies in no element
abbrev pub HasLooseNop : List ℕ → Type 0
HasLooseNop image =
    (place : ℕ) × (is_nop (cpu_type image) image place ≡ true) × IsFree (element_spans image) place

-- The file parts of an image do not ascend, or its elements do not; or it has an encrypted range, or a
-- NOP in no element.
abbrev pub TakesMemory : List ℕ → Type 0
TakesMemory image =
    (¬ IsAscending (file_parts image)) ⊎ (¬ IsAscending (element_spans image))
    ⊎ (HasEncrypted image ⊎ HasLooseNop image)

-- the slices of a file do not ascend, or the image in a slice takes memory
abbrev pub TakesMemoryIn : List ℕ → ℕ → Type 0
TakesMemoryIn file zero = ¬ IsAscending (slice_spans file)
TakesMemoryIn file (suc k) = TakesInSlice TakesMemory file (suc k)

-- The strict verdict on a file takes memory: that by the rules of the layout does, or the file breaks
-- none of them, and a scope takes some.
abbrev pub StrictlyTakesMemory : List ℕ → Type 0
StrictlyTakesMemory file =
    FileTakesMemory file ⊎ (IsUnbroken file × ((scope : ℕ) × TakesMemoryIn file scope))

-- A refusal is the first broken rule of the layout, or where none is broken the first broken
-- strict rule, or that there was no memory, which is reported only if the verdict takes some.
abbrev pub IsStrictRefusal : List ℕ → Refusal → Type 0
IsStrictRefusal file (refusal.Broken b) =
    IsFirstBroken file b ⊎ (IsUnbroken file × IsFirstStrictlyBroken file b)
IsStrictRefusal file refusal.Memory = StrictlyTakesMemory file
