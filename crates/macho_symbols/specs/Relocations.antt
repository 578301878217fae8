-- The relocations of an image, and where they break their rule.
-- (mach-o/loader.h: section_64, dysymtab_command; mach-o/reloc.h: relocation_info)
use Rattle.std.specs.Prelude.{◌≡◌, ◌≢◌, ℕ, ◌+◌, ◌*◌, ◌≤◌, ◌<◌, ◌⊎◌, List, Any, true, false}
use Rattle.macho_fields.specs.Image.{cpu_type, commands_of, with_cmd}
use Rattle.macho_fields.specs.Segment.{section_count, reloff, nreloc}
use Rattle.macho_fields.specs.Symbol.{symbol_count, extreloff, nextrel, locreloff, nlocrel}
use Rattle.macho_fields.specs.declared.header.loader.TheConstants.{LC_DYSYMTAB}
use Rattle.macho_fields.specs.declared.header.machine.TheConstants.{CPU_TYPE_ARM64}
use Rattle.macho_fields.specs.declared.header.reloc.TheConstants.{RELOCATION_INFO_SIZE}
use Rattle.macho_image.specs.Segment.{sections_of}
use Rattle.macho_symbols.specs.Reloc.{relocation_at}
use Rattle.macho_fields.specs.declared.header.reloc.TheConstants.{ARM64_RELOC_ADDEND, POINTER_LENGTH}
use Rattle.macho_symbols.specs.declared.reloc.Relocation.{Relocation}
use Rattle.macho_symbols.specs.declared.relocations.Owner.{Owner}
use Rattle.macho_symbols.specs.declared.relocations.Owner.TheVariants as owners
use Rattle.macho_tables.specs.Items.{AtItem}

-- r_symbolnum is a number to add
abbrev pub IsAddend : List ℕ → Relocation → Type 0
IsAddend image relocation =
    (cpu_type image ≡ CPU_TYPE_ARM64) × (relocation.kind ≡ ARM64_RELOC_ADDEND)

-- r_symbolnum is the index of a symbol, and that symbol does not exist; or it is the number of a section, from 1 over
-- all segments, and that section does not exist. 0 does not name a section (R_ABS).
abbrev pub NamesNothing : List ℕ → Relocation → Type 0
NamesNothing image relocation =
    ((relocation.is_external ≡ true)
    × (symbol_count image (commands_of image) ≤ relocation.symbolnum))
    ⊎ ((relocation.is_external ≡ false)
    × (section_count image (commands_of image) < relocation.symbolnum)
    × ¬ IsAddend image relocation)

-- what is wrong of a relocation of a section, and of one of LC_DYSYMTAB, where it must have 8 bytes
abbrev pub IsBadOf : List ℕ → Owner → Relocation → Type 0
IsBadOf image owners.Section relocation = NamesNothing image relocation
IsBadOf image owners.Dysymtab relocation =
    NamesNothing image relocation ⊎ (relocation.length ≢ POINTER_LENGTH)

-- one of the relocations of a table has P, and is at the place
abbrev pub AtRelocation : List ℕ → ℕ → ℕ → (Relocation → Type 0) → ℕ → Type 0
AtRelocation image start count P place =
    AtItem (λ k. start + RELOCATION_INFO_SIZE * k) count
    (λ k. P (relocation_at image (start + RELOCATION_INFO_SIZE * k))) place

-- a relocation of a section has
abbrev pub InSections : List ℕ → (Relocation → Type 0) → ℕ → Type 0
InSections image P place =
    Any (λ section. AtRelocation image (reloff image section.1) (nreloc image section.1) P place)
    (sections_of image (commands_of image))

-- one of the external or local relocations of LC_DYSYMTAB has
abbrev pub InDysymtab : List ℕ → (Relocation → Type 0) → ℕ → Type 0
InDysymtab image P place =
    Any (λ dysymtab.
    AtRelocation image (extreloff image dysymtab) (nextrel image dysymtab) P place
    ⊎ AtRelocation image (locreloff image dysymtab) (nlocrel image dysymtab) P place)
    (with_cmd image LC_DYSYMTAB (commands_of image))

-- the rule relocation
abbrev pub BreaksRelocation : List ℕ → ℕ → Type 0
BreaksRelocation image place =
    InSections image (IsBadOf image owners.Section) place
    ⊎ InDysymtab image (IsBadOf image owners.Dysymtab) place
