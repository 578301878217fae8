-- Spans of an image, each with a tag that names it in the answer, and which of them is the first that
-- shares a place with an earlier one.
use Rattle.std.specs.Prelude.{◌≡◌, ℕ, List, map, slice_get, Option, Some, None}
use Rattle.macho_spans.specs.Overlap.{SharesEarlier, IsLeastSharing}
use Rattle.macho_fields.specs.Segment.{fileoff, filesize}
use Rattle.macho_spans.specs.SpanOrder.{spans_in, tags_in}
use Rattle.macho_spans.specs.declared.span.Span.{Span}
use Rattle.macho_strict.specs.Elements.{element, elements_of}
use Rattle.macho_strict.specs.Rules.{all_segments}
use Rattle.macho_strict.specs.declared.elements.Element.{Element}

-- the file part of a segment, which its command describes
abbrev pub file_part : List ℕ → ℕ → Element
file_part image segment = element segment (fileoff image segment) (filesize image segment)

-- the file parts of all segments of an image, in the order of the commands
abbrev pub all_parts : List ℕ → List Element
all_parts image = map (file_part image) (all_segments image)

-- the bytes of each element, with the place of what describes it
abbrev pub tagged : List Element → List (Span × ℕ)
tagged elements = map (λ element. (element.span, element.described)) elements

abbrev pub tagged_parts : List ℕ → List (Span × ℕ)
tagged_parts image = tagged (all_parts image)

abbrev pub tagged_elements : List ℕ → List (Span × ℕ)
tagged_elements image = tagged (elements_of image)

-- the tag of the first span that shares a place with an earlier one, or none where no two share one
abbrev pub IsFirstSharing : List (Span × ℕ) → Option ℕ → Type 0
IsFirstSharing pairs None = (j : ℕ) → ¬ SharesEarlier (spans_in pairs) j
IsFirstSharing pairs (Some tag) =
    (j : ℕ) × IsLeastSharing (spans_in pairs) j × (slice_get (tags_in pairs) j ≡ Some tag)
