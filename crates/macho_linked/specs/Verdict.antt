-- The linked verdict on a file, and where it takes memory.
use Rattle.std.specs.Prelude.{ℕ, ◌⊎◌, List}
use Rattle.macho_fields.specs.First.{IsUnbroken}
use Rattle.macho_rules.specs.Profile.{TakesInSlice}
use Rattle.macho_rules.specs.declared.refusal.Refusal.{Refusal}
use Rattle.macho_rules.specs.declared.refusal.Refusal.TheVariants as refusal
use Rattle.macho_strict.specs.First.{IsStrictlyUnbroken}
use Rattle.macho_strict.specs.Verdict.{IsStrictRefusal}
use Rattle.macho_tables.specs.CodeParts.{HasSeveralCodeParts}
use Rattle.macho_exports.specs.Exports.{HasExports}
use Rattle.macho_tables.specs.FileBytes.{HasManySegments}
use Rattle.macho_tables.specs.InitOffsets.{HasInitOffsets}
use Rattle.macho_linked.specs.Rules.{IsFirstLinkedBroken}

-- An image has exports, many mapped segments, several that may be executed, or offsets of initializers.
abbrev pub TakesMemory : List ℕ → Type 0
TakesMemory image = HasExports image ⊎ HasManySegments image ⊎ HasSeveralCodeParts image ⊎ HasInitOffsets image

-- The linked verdict on a file takes memory where the strict one does not: the file breaks no rule of that, and
-- a scope takes some.
abbrev pub LinkedTakesMemory : List ℕ → Type 0
LinkedTakesMemory file =
    IsUnbroken file × IsStrictlyUnbroken file × ((scope : ℕ) × TakesInSlice TakesMemory file scope)

-- A refusal is one of the strict verdict, or where the file breaks no rule of that the first broken
-- linked rule, or that there was no memory, which is reported only if the verdict takes some.
abbrev pub IsLinkedRefusal : List ℕ → Refusal → Type 0
IsLinkedRefusal file (refusal.Broken b) =
    IsStrictRefusal file (refusal.Broken b)
    ⊎ (IsUnbroken file × IsStrictlyUnbroken file × IsFirstLinkedBroken file b)
IsLinkedRefusal file refusal.Memory = IsStrictRefusal file refusal.Memory ⊎ LinkedTakesMemory file
