-- The unambiguous verdict on a file, and where it takes memory.
use Rattle.std.specs.Prelude.{ℕ, suc, zero, ◌<◌, ◌⊎◌, List, length}
use Rattle.macho_fields.specs.First.{IsUnbroken}
use Rattle.macho_fields.specs.Image.{commands_of}
use Rattle.macho_fields.specs.Segment.{all_segments}
use Rattle.macho_fields.specs.Universal.{IsUniversal}
use Rattle.macho_alike.specs.Binds.{HasBind}
use Rattle.macho_alike.specs.ExportSymbols.{HasSymbolsOrExports}
use Rattle.macho_alike.specs.Imports.{HasLookUp}
use Rattle.macho_alike.specs.Indirects.{HasDysymtab}
use Rattle.macho_image.specs.Segment.{sections_of}
use Rattle.macho_linked.specs.Rules.{IsLinkedUnbroken}
use Rattle.macho_linked.specs.Verdict.{IsLinkedRefusal}
use Rattle.macho_rules.specs.Profile.{TakesInSlice}
use Rattle.macho_rules.specs.declared.refusal.Refusal.{Refusal}
use Rattle.macho_rules.specs.declared.refusal.Refusal.TheVariants as refusal
use Rattle.macho_strict.specs.First.{IsStrictlyUnbroken}
use Rattle.macho_readers.specs.Commands.{HasSeveralPlatforms}
use Rattle.macho_unambiguous.specs.Rules.{IsFirstUnambiguousBroken}
use Rattle.macho_readers.specs.declared.names.TheConstants.{FEW_NAMES}

-- the rules of names take memory: the image has a bind or an import, symbols, indirect entries or exports
abbrev pub NamesTakeMemory : List ℕ → Type 0
NamesTakeMemory image =
    HasBind image ⊎ (HasLookUp image ⊎ (HasDysymtab image ⊎ HasSymbolsOrExports image))

-- an image has many sections or many segments, versions of several platforms, a bind or an import, symbols or exports
abbrev pub TakesMemory : List ℕ → Type 0
TakesMemory image =
    (FEW_NAMES < length (sections_of image (commands_of image)))
    ⊎ ((FEW_NAMES < length (all_segments image)) ⊎ (HasSeveralPlatforms image ⊎ NamesTakeMemory image))

-- a file is universal, or the image in a slice takes memory
abbrev pub TakesMemoryIn : List ℕ → ℕ → Type 0
TakesMemoryIn file zero = IsUniversal file
TakesMemoryIn file (suc k) = TakesInSlice TakesMemory file (suc k)

-- The unambiguous verdict on a file takes memory where the linked one does not: the file breaks no rule of that, and a
-- scope takes some.
abbrev pub UnambiguousTakesMemory : List ℕ → Type 0
UnambiguousTakesMemory file =
    IsUnbroken file × IsStrictlyUnbroken file × IsLinkedUnbroken file
    × ((scope : ℕ) × TakesMemoryIn file scope)

-- A refusal is one of the linked verdict, or where the file breaks no rule of that the first broken unambiguous rule, or
-- that there was no memory, which is reported only if the verdict takes some.
abbrev pub IsUnambiguousRefusal : List ℕ → Refusal → Type 0
IsUnambiguousRefusal file (refusal.Broken b) =
    IsLinkedRefusal file (refusal.Broken b)
    ⊎ (IsUnbroken file × IsStrictlyUnbroken file × IsLinkedUnbroken file × IsFirstUnambiguousBroken file b)
IsUnambiguousRefusal file refusal.Memory = IsLinkedRefusal file refusal.Memory ⊎ UnambiguousTakesMemory file
