-- Which sections of an image lie in mapped segments. (mach-o/loader.h: section_64)
use Rattle.std.specs.Prelude.{ℕ, zero, suc, ◌<◌, ◌↔◌, nat_lt, List, slice_get, slice_index_or, Bool, false, IsTrue, Option, None, IsSomeAnd}
use Rattle.macho_fields.specs.Image.{commands_of}
use Rattle.macho_fields.specs.Segment.{vmsize}
use Rattle.macho_image.specs.Segment.{SectionView, sections_of}
use Rattle.macho_symbols.specs.declared.sections.MappedSections.{MappedSections}
use Rattle.macho_symbols.specs.declared.sections.TheConstants.{SECTION_NUMBERS}

-- the section with a number, after its segment: they are numbered from 1 over all segments
abbrev pub section_with : List ℕ → ℕ → Option (ℕ × ℕ)
section_with image zero = None
section_with image (suc k) = slice_get (sections_of image (commands_of image)) k

-- there is a section with the number, and its segment is mapped
abbrev pub IsMappedSection : List ℕ → ℕ → Type 0
IsMappedSection image number =
    IsSomeAnd (section_with image number) (λ section. 0 < vmsize image section.0)

-- the segment of a section is mapped
abbrev pub is_mapped : SectionView → Bool
is_mapped section = nat_lt 0 (vmsize section.image section.segment)

-- each number that a symbol can have names such a section, or not
abbrev pub AreMappedSections : List ℕ → MappedSections → Type 0
AreMappedSections image sections =
    (number : ℕ) → number < SECTION_NUMBERS
    → IsTrue (slice_index_or sections.are_mapped number false) ↔ IsMappedSection image number
