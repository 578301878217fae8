-- Where a section breaks a rule, so that two readers see another section, or other bytes at an address. A section is
-- named by the place of its segment and its own. (mach-o/loader.h: section_64)
use Rattle.std.specs.Prelude.{◌≡◌, ◌≢◌, ℕ, ◌+◌, ◌≤◌, ◌<◌, ◌⊎◌, List, length, Any, true, bit_and}
use Rattle.macho_fields.specs.Field.{part}
use Rattle.macho_fields.specs.Image.{commands_of}
use Rattle.macho_fields.specs.NonZero.{IsNonZero}
use Rattle.macho_fields.specs.Segment.{all_segments, vmsize, section_address, section_size, section_flags, is_zero_fill, Supplies, source, File}
use Rattle.macho_fields.specs.declared.header.loader.TheConstants as loader
use Rattle.macho_image.specs.Segment.{sections_of, section_name, short_name}
use Rattle.macho_spans.specs.Span.{Covers}
use Rattle.macho_readers.specs.Segments.{HasTail}

-- Names: sectname, of 16 bytes at 0, and segname, of 16 bytes at 16

abbrev pub segment_name_of : List ℕ → ℕ → List ℕ
segment_name_of image section = short_name image (section + 16)

-- the section and its segment lie inside the image
abbrev pub LieInside : List ℕ → ℕ × ℕ → Type 0
LieInside image section =
    (section.0 + loader.SEGMENT_COMMAND_64_SIZE ≤ length image) × (section.1 + loader.SECTION_64_SIZE ≤ length image)

-- the 16 bytes of segname are not the segment's
abbrev pub HasOtherSegment : List ℕ → ℕ × ℕ → Type 0
HasOtherSegment image section =
    part (section.1 + 16) 16 image ≢ part (section.0 + 8) 16 image

-- an earlier section has both names of this one
abbrev pub HasEarlierNames : List ℕ → ℕ × ℕ → Type 0
HasEarlierNames image section =
    Any (λ earlier. (earlier.1 < section.1)
    × (section_name image earlier.1 ≡ section_name image section.1)
    × (segment_name_of image earlier.1 ≡ segment_name_of image section.1))
    (sections_of image (commands_of image))

-- what two readers see of its names by themselves
unfoldable pub IsMisnamed : List ℕ → ℕ × ℕ → Type 0
IsMisnamed image section = HasTail image section.1 ⊎ HasOtherSegment image section

abbrev pub HasBadName : List ℕ → ℕ × ℕ → Type 0
HasBadName image section =
    HasTail image section.1 ⊎ (HasOtherSegment image section ⊎ HasEarlierNames image section)

-- some section at the place has P
abbrev pub AtSection : List ℕ → (ℕ × ℕ → Type 0) → ℕ → Type 0
AtSection image P place =
    Any (λ section. (place ≡ section.1) × P section) (sections_of image (commands_of image))

-- the rule section-name, at the place of a section
abbrev pub BreaksSectionName : List ℕ → ℕ → Type 0
BreaksSectionName image place = AtSection image (HasBadName image) place

-- Addresses

-- the address is one of the section's
abbrev pub HasAddress : List ℕ → ℕ × ℕ → ℕ → Type 0
HasAddress image section address =
    Covers (section_address image section.1) (section_size image section.1) address

-- no reader looks for it at an address: its segment is not mapped, and flags says that it is for debugging
abbrev pub IsDebug : List ℕ → ℕ × ℕ → Type 0
IsDebug image section =
    (vmsize image section.0 ≡ 0)
    × (bit_and (section_flags image section.1) loader.S_ATTR_DEBUG ≢ 0)

-- an earlier section that readers look for is at an address of this one
abbrev pub SharesAddress : List ℕ → ℕ × ℕ → Type 0
SharesAddress image section =
    Any (λ earlier. (earlier.1 < section.1) × (¬ IsDebug image earlier)
    × ((address : ℕ) × HasAddress image earlier address × HasAddress image section address))
    (sections_of image (commands_of image))

-- the section shows a zero where its segment has a byte of the file that is not
abbrev pub HidesByte : List ℕ → ℕ × ℕ → Type 0
HidesByte image section =
    (is_zero_fill image section.1 ≡ true)
    × ((address : ℕ) × (place : ℕ) × HasAddress image section address
    × (source image section.0 address ≡ File place) × IsNonZero image place)

-- it is at an address of some segment
abbrev pub IsOverSegment : List ℕ → ℕ × ℕ → Type 0
IsOverSegment image section =
    Any (λ segment. (address : ℕ) × HasAddress image section address × Supplies image segment address)
    (all_segments image)

-- what a section of a mapped segment must not be, and one of an unmapped segment
abbrev pub IsAmbiguous : List ℕ → ℕ × ℕ → Type 0
IsAmbiguous image section =
    ((0 < vmsize image section.0) × (SharesAddress image section ⊎ HidesByte image section))
    ⊎ ((vmsize image section.0 ≡ 0) × IsOverSegment image section)

-- the rule section-alone, at the place of a section
abbrev pub BreaksSectionAlone : List ℕ → ℕ → Type 0
BreaksSectionAlone image place =
    AtSection image (λ section.
    (0 < section_size image section.1) × (¬ IsDebug image section) × IsAmbiguous image section) place
