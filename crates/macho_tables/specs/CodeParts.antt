-- The bytes of an image that may be executed, and where they take memory.
use Rattle.std.specs.Prelude.{◌≡◌, ◌≢◌, ℕ, ◌↔◌, ◌<◌, ◌&&◌, nat_lt, List, Any, Contains, Bool, true}
use Rattle.macho_fields.specs.Segment.{all_segments, filesize}
use Rattle.macho_tables.specs.DataInCode.{IsCodeOf}
use Rattle.macho_tables.specs.declared.code_parts.CodeParts.{CodeParts}
use Rattle.macho_tables.specs.declared.code_parts.CodeParts.TheVariants as parts
use Rattle.macho_spans.specs.Span.{IsInside}
use Rattle.macho_spans.specs.declared.span.Span.{Span}
use Rattle.macho_strict.specs.Unclaimed.{is_code}

-- the segment may be executed, and has bytes in the file
abbrev pub has_code : List ℕ → ℕ → Bool
has_code image segment = is_code image segment && nat_lt 0 (filesize image segment)

-- it is such a segment, and another one
abbrev pub IsOtherPart : ℕ → List ℕ → ℕ → Type 0
IsOtherPart first image segment = (has_code image segment ≡ true) × (segment ≢ first)

abbrev pub HasOtherPart : List ℕ → ℕ → Type 0
HasOtherPart image first = Any (IsOtherPart first image) (all_segments image)

-- several segments may be executed, and have bytes in the file
abbrev pub HasSeveralCodeParts : List ℕ → Type 0
HasSeveralCodeParts image =
    (first : ℕ) × Contains (all_segments image) first × (has_code image first ≡ true)
    × HasOtherPart image first

-- the bytes are all in one part
abbrev pub HasCodePart : CodeParts → Span → Type 0
HasCodePart (parts.One part) bytes = IsInside bytes part
HasCodePart (parts.Many all) bytes = Any (IsInside bytes) all

-- so they are in one segment of the image that may be executed
abbrev pub AreCodeParts : List ℕ → CodeParts → Type 0
AreCodeParts image code =
    (bytes : Span) → 0 < bytes.len
    → HasCodePart code bytes ↔ Any (IsCodeOf image bytes) (all_segments image)
