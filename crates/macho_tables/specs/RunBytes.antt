-- Which addresses of an image have a byte of the file that may be executed.
use Rattle.std.specs.Prelude.{◌≡◌, ℕ, List, Option, Some}
use Rattle.macho_fields.specs.Segment.{Source, File}
use Rattle.macho_rules.specs.Mapping.{sources, GivesSources}
use Rattle.macho_spans.specs.declared.span.Span.{Span}
use Rattle.macho_tables.specs.CodeParts.{HasCodePart, AreCodeParts}
use Rattle.macho_tables.specs.declared.code_parts.CodeParts.{CodeParts}
use Rattle.macho_tables.specs.declared.run_bytes.RunBytes.{RunBytes}

-- a mapping is the image's, and the parts are its code
pub record AreRunBytes (image : List ℕ) (bytes : RunBytes) : Type 0 where
  pub mapping : GivesSources image (sources bytes.mapping)
  pub code : AreCodeParts image bytes.code

-- the byte at a place, alone
abbrev pub byte_at : ℕ → Span
byte_at place = record { start = place; len = 1 }

-- what is at the address is a byte of the file, and in one of the parts
abbrev pub GivesCodeByte : (ℕ → Option Source) → CodeParts → ℕ → Type 0
GivesCodeByte given code address =
    (place : ℕ) × (given address ≡ Some (File place)) × HasCodePart code (byte_at place)
