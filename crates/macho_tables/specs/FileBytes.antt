-- Which addresses of an image have a byte of the file, and where that takes memory.
use Rattle.std.specs.Prelude.{◌≡◌, ℕ, ◌<◌, List, length, Option, Some, IfSome}
use Rattle.macho_fields.specs.Segment.{Source, File}
use Rattle.macho_image.specs.Mapped.{mapped_segments}
use Rattle.macho_tables.specs.SegmentMemory.{HoldMemory}
use Rattle.macho_tables.specs.StartNumbers.{IsFileAddress}
use Rattle.macho_tables.specs.declared.file_bytes.FileBytes.{FileBytes}
use Rattle.macho_tables.specs.declared.file_bytes.TheConstants as file_bytes
use Rattle.macho_tables.specs.declared.segment_memory.Extent.TheVariants as extents
use Rattle.macho_spans.specs.Span.{Holds}

-- the image has many mapped segments
abbrev pub HasManySegments : List ℕ → Type 0
HasManySegments image = file_bytes.FEW_SEGMENTS < length (mapped_segments image)

-- what is at the address is a byte of the file
abbrev pub GivesFileBytes : (ℕ → Option Source) → ℕ → Type 0
GivesFileBytes given address = (place : ℕ) × (given address ≡ Some (File place))

-- the addresses that are held have bytes of the file, and the spans of many segments hold all that have
pub record AreFileBytes (image : List ℕ) (bytes : FileBytes) : Type 0 where
  pub held : (address : ℕ) → Holds bytes.held address → IsFileAddress image address
  pub many : IfSome bytes.many (HoldMemory extents.File image)
