-- The tables of LC_DYSYMTAB that only older loaders follow. (mach-o/loader.h: dysymtab_command)
use Rattle.std.specs.Prelude.{◌≡◌, ℕ, ◌<◌, ◌⊎◌, List, Any, Contains, true}
use Rattle.macho_fields.specs.Image.{command_cmd, commands_of, with_cmd}
use Rattle.macho_fields.specs.declared.header.loader.TheConstants.{LC_DYSYMTAB}
use Rattle.macho_image.specs.Symbol.{dysymtab_at}
use Rattle.macho_image.specs.declared.dysymtab.Dysymtab.{Dysymtab}
use Rattle.macho_tables.specs.Kinds.{is_fixups}

-- there are contents, modules or references
abbrev pub HasContents : Dysymtab → Type 0
HasContents dysymtab = (0 < dysymtab.ntoc) ⊎ (0 < dysymtab.nmodtab) ⊎ (0 < dysymtab.nextrefsyms)

-- there are external or local relocations
abbrev pub HasRelocations : Dysymtab → Type 0
HasRelocations dysymtab = (0 < dysymtab.nextrel) ⊎ (0 < dysymtab.nlocrel)

-- some command names fixups by which newer loaders write
abbrev pub HasFixups : List ℕ → Type 0
HasFixups image = Any (λ command. is_fixups (command_cmd image command) ≡ true) (commands_of image)

-- older loaders write by relocations, and newer ones by fixups
abbrev pub IsFixedTwice : List ℕ → Dysymtab → Type 0
IsFixedTwice image dysymtab = HasRelocations dysymtab × HasFixups image

abbrev pub IsObsolete : List ℕ → Dysymtab → Type 0
IsObsolete image dysymtab = HasContents dysymtab ⊎ IsFixedTwice image dysymtab

-- the rule obsolete-table, at the place of LC_DYSYMTAB
abbrev pub BreaksObsoleteTable : List ℕ → ℕ → Type 0
BreaksObsoleteTable image place =
    Contains (with_cmd image LC_DYSYMTAB (commands_of image)) place
    × IsObsolete image (dysymtab_at image place)
