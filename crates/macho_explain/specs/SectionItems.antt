-- What the sections of an image have at a place: relocations, and offsets of initializers. (mach-o/loader.h: section_64,
-- dysymtab_command; mach-o/reloc.h: relocation_info)
use Rattle.std.specs.Prelude.{ℕ, ◌+◌, ◌≤◌, ◌<◌, ◌⊎◌, List, Any, IsSomeAnd, length}
use Rattle.macho_fields.specs.Image.{commands_of}
use Rattle.macho_fields.specs.Segment.{reloff, nreloc}
use Rattle.macho_fields.specs.Symbol.{extreloff, nextrel, locreloff, nlocrel}
use Rattle.macho_fields.specs.declared.header.loader.TheConstants as loader
use Rattle.macho_fields.specs.declared.header.reloc.TheConstants as reloc
use Rattle.macho_image.specs.Command.{first_with_cmd}
use Rattle.macho_image.specs.Segment.{SectionView, section_at, sections_of}
use Rattle.macho_symbols.specs.Relocations.{AtRelocation}
use Rattle.macho_tables.specs.InitOffsets.{HasOffsets, offset_count, offset_place}
use Rattle.macho_tables.specs.Items.{AtItem}
use Rattle.macho_explain.specs.Wholes.{Opens}
use Rattle.macho_explain.specs.declared.section_item.Item.{Item}
use Rattle.macho_explain.specs.declared.section_item.Item.TheVariants as items

-- a relocation of a table begins at the place
abbrev pub HasRelocationAt : List ℕ → ℕ → ℕ → ℕ → Type 0
HasRelocationAt image start count place = AtRelocation image start count (λ relocation. Unit {0}) place

-- an item of a section begins at the place
abbrev pub HasItem : Item → ℕ → SectionView → Type 0
HasItem items.Relocation place section =
    HasRelocationAt section.image (reloff section.image section.place) (nreloc section.image section.place) place
HasItem items.InitOffset place section =
    HasOffsets section.image section.segment section.place
    × AtItem (offset_place section.image section.place) (offset_count section.image section.place) (λ k. Unit {0}) place

-- of some section of the image
abbrev pub HasSectionItem : Item → List ℕ → ℕ → Type 0
HasSectionItem item image place =
    Any (λ section. HasItem item place (section_at image section)) (sections_of image (commands_of image))

-- one of the external or local relocations of the first LC_DYSYMTAB begins there
abbrev pub HasDysymtabRelocation : List ℕ → ℕ → Type 0
HasDysymtabRelocation image place =
    IsSomeAnd (first_with_cmd image loader.LC_DYSYMTAB (commands_of image)) (λ dysymtab.
    HasRelocationAt image (extreloff image dysymtab) (nextrel image dysymtab) place
    ⊎ HasRelocationAt image (locreloff image dysymtab) (nlocrel image dysymtab) place)

-- What the rules are about

-- a relocation of a section or of LC_DYSYMTAB begins at the place, and lies in the image
abbrev pub HasRelocation : List ℕ → ℕ → Type 0
HasRelocation image place =
    Opens image × (place + reloc.RELOCATION_INFO_SIZE ≤ length image)
    × (HasSectionItem items.Relocation image place ⊎ HasDysymtabRelocation image place)

-- an offset of an initializer begins at the place
abbrev pub HasInitOffset : List ℕ → ℕ → Type 0
HasInitOffset image place = Opens image × (place < length image) × HasSectionItem items.InitOffset image place
