-- Which bytes has a section? The answers of readers that take them by its offset, and of readers that take them by its
-- addresses. (mach-o/loader.h: section_64)
use Rattle.std.specs.Prelude.{◌≡◌, ℕ, ◌+◌, ◌<◌, ◌⊎◌, List, slice_index, Any, Contains, if◌then◌else◌}
use Rattle.macho_fields.specs.Image.{commands_of}
use Rattle.macho_fields.specs.Segment.{all_segments, section_address, section_size, section_offset, is_zero_fill, Supplies, source}
use Rattle.macho_image.specs.Segment.{sections_of}
use Rattle.macho_readers.specs.Models.{Agree}
use Rattle.macho_readers.specs.PageModels.{byte_of}
use Rattle.macho_readers.specs.Sections.{IsDebug}

-- by its offset in the file: a zero where the section is zero-fill
abbrev pub byte_by_offset : List ℕ → ℕ → ℕ → ℕ
byte_by_offset image section k =
    if is_zero_fill image section then 0 else slice_index image (section_offset image section + k)

-- by its address: what a segment that supplies the address has there
abbrev pub IsByteByAddress : List ℕ → ℕ → ℕ → ℕ → Type 0
IsByteByAddress image section k answer =
    let address = section_address image section + k in
    Any (λ segment. Supplies image segment address × (answer ≡ byte_of image (source image segment address)))
    (all_segments image)

abbrev pub IsByteOfSection : List ℕ → ℕ → ℕ → ℕ → Type 0
IsByteOfSection image section k answer =
    (answer ≡ byte_by_offset image section k) ⊎ IsByteByAddress image section k answer

-- each byte of a section that readers look for at its addresses
abbrev pub HasOneContent : List ℕ → Type 0
HasOneContent image =
    (section : ℕ × ℕ) → Contains (sections_of image (commands_of image)) section → ¬ IsDebug image section
    → (k : ℕ) → k < section_size image section.1 → Agree (IsByteOfSection image section.1 k)
