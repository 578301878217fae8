-- The three searches of the rule section-alone, in an image that breaks no rule of the layout.
use Rattle.std.specs.Prelude.{◌≡◌, ℕ, ◌≤◌, ◌<◌, ◌↔◌, nat_lt, List, Any, Bool, IsTrue, IsPermutation, Option, None, IfSome, if◌then◌else◌}
use Rattle.std.specs.List.Sorted.{IsNonDecreasingBy}
use Rattle.macho_fields.specs.Image.{commands_of}
use Rattle.macho_fields.specs.Layers.{NothingBreaks}
use Rattle.macho_fields.specs.Rules.{BreaksImage}
use Rattle.macho_fields.specs.Segment.{all_segments, vmaddr, vmsize, section_address, section_size, Supplies}
use Rattle.macho_image.specs.Segment.{sections_of}
use Rattle.macho_rules.specs.Mapped.{mapped_memory}
use Rattle.macho_spans.specs.Span.{Holds, Shares}
use Rattle.macho_spans.specs.declared.span.Span.{Span}
use Rattle.macho_readers.specs.Sections.{IsDebug, HidesByte}

-- the addresses of a section
abbrev pub section_span : List ℕ → ℕ × ℕ → Span
section_span image section =
    record { start = section_address image section.1; len = section_size image section.1 }

-- the addresses of a section of a mapped segment, and no address of another one
abbrev pub mapped_part : List ℕ → ℕ × ℕ → Span
mapped_part image section =
    if nat_lt 0 (vmsize image section.0) then section_span image section else record { start = 0; len = 0 }

-- the section shares an address with an earlier one, and the segments of both are mapped
abbrev pub SharesMapped : List ℕ → ℕ × ℕ → Type 0
SharesMapped image section =
    Any (λ earlier. (earlier.1 < section.1) × Shares (mapped_part image earlier) (mapped_part image section))
    (sections_of image (commands_of image))

-- a segment of the image supplies an address of the span
abbrev pub MeetsSegment : List ℕ → Span → Type 0
MeetsSegment image span =
    Any (λ segment. (address : ℕ) × Holds span address × Supplies image segment address) (all_segments image)

-- the section, which is found in some bytes, is for an unmapped segment, and at an address of a segment of the image
abbrev pub IsOverMapped : List ℕ → List ℕ → ℕ × ℕ → Type 0
IsOverMapped image bytes section =
    (vmsize bytes section.0 ≡ 0) × (0 < section_size bytes section.1) × (¬ IsDebug bytes section)
    × MeetsSegment image (section_span bytes section)

-- what is told about a section, by the addresses of the mapped segments of an image, sorted by their starts
unfoldable pub TellsOverMapped : Bool → List Span → List ℕ → ℕ × ℕ → Type 0
TellsOverMapped is spans bytes section =
    (image : List ℕ) → NothingBreaks (BreaksImage image None) → IsPermutation (mapped_memory image) spans
    → IsNonDecreasingBy (λ span. span.start) spans → IsTrue is ↔ IsOverMapped image bytes section

-- the section is before the end, if there is one, begins in its mapped segment, and hides a byte
abbrev pub IsHiding : Option ℕ → List ℕ → ℕ × ℕ → Type 0
IsHiding end image section =
    IfSome end (λ end. section.1 < end) × (0 < vmsize image section.0) × (0 < section_size image section.1)
    × (vmaddr image section.0 ≤ section_address image section.1) × HidesByte image section
