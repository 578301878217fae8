-- The offsets of the functions that a loader calls before a program begins, and where they break their rule. A section
-- of their type has them, 4 bytes each, from the base on. (mach-o/loader.h: S_INIT_FUNC_OFFSETS)
use Rattle.std.specs.Prelude.{◌≡◌, ℕ, ◌+◌, ◌*◌, ◌%◌, ◌<◌, ◌⊎◌, List, Any, IsSomeAnd}
use Rattle.std.specs.Int.{div_ceil}
use Rattle.macho_fields.specs.Image.{word, commands_of}
use Rattle.macho_fields.specs.Segment.{base_of, vmsize, section_size, section_offset, section_flags, IsExecutable}
use Rattle.macho_fields.specs.declared.header.loader.TheConstants as loader
use Rattle.macho_image.specs.Segment.{sections_of}
use Rattle.macho_tables.specs.Items.{AtItem}

-- the section has such offsets, and its segment is mapped
abbrev pub HasOffsets : List ℕ → ℕ → ℕ → Type 0
HasOffsets image segment section =
    (section_flags image section % 256 ≡ loader.S_INIT_FUNC_OFFSETS) × (0 < vmsize image segment)

-- how many offsets begin in it, and where the offset k is in the image
abbrev pub offset_count : List ℕ → ℕ → ℕ
offset_count image section = div_ceil (section_size image section) loader.INIT_OFFSET_SIZE

abbrev pub offset_place : List ℕ → ℕ → ℕ → ℕ
offset_place image section k = section_offset image section + k * loader.INIT_OFFSET_SIZE

-- the offset at the place leads to an executable byte of the file, from the base on
abbrev pub IsCalled : List ℕ → ℕ → Type 0
IsCalled image place =
    IsSomeAnd (base_of image (commands_of image))
    (λ base. IsExecutable image (commands_of image) (base + word image place))

-- the offset k is cut, or leads to no such byte
abbrev pub IsBadOffset : List ℕ → ℕ → ℕ → Type 0
IsBadOffset image section k =
    (section_size image section < k * loader.INIT_OFFSET_SIZE + loader.INIT_OFFSET_SIZE)
    ⊎ ¬ IsCalled image (offset_place image section k)

-- a bad offset of a section is at the place
abbrev pub BadOffset : List ℕ → ℕ → ℕ → Type 0
BadOffset image section place =
    AtItem (offset_place image section) (offset_count image section) (IsBadOffset image section) place

-- the rule init-offset
abbrev pub BreaksInitOffset : List ℕ → ℕ → Type 0
BreaksInitOffset image place =
    Any (λ section. HasOffsets image section.0 section.1 × BadOffset image section.1 place)
    (sections_of image (commands_of image))

-- some section has such offsets
abbrev pub HasInitOffsets : List ℕ → Type 0
HasInitOffsets image =
    Any (λ section. HasOffsets image section.0 section.1) (sections_of image (commands_of image))
