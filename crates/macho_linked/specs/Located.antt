-- Where the functions, the data in code and the initializers of an image that breaks no rule are.
use Rattle.std.specs.Prelude.{◌≡◌, ℕ, ◌+◌, ◌*◌, ◌≤◌, ◌<◌, List, All, Any, Contains, Some, true}
use Rattle.macho_fields.specs.Field.{part}
use Rattle.macho_fields.specs.Image.{commands_of}
use Rattle.macho_fields.specs.Segment.{all_segments, base_of, section_size}
use Rattle.macho_fields.specs.Universal.{OfEachImage}
use Rattle.macho_fields.specs.declared.header.loader.TheConstants as loader
use Rattle.macho_tables.specs.DataInCode.{entry_at, entry_place, is_known_kind, bytes_of_entry, IsCodeOf}
use Rattle.macho_tables.specs.DataTables.{IsDataTable}
use Rattle.macho_image.specs.Segment.{sections_of}
use Rattle.macho_tables.specs.FunctionStarts.{function_starts}
use Rattle.macho_tables.specs.InitOffsets.{HasOffsets, IsCalled, offset_count, offset_place}
use Rattle.macho_tables.specs.StartNumbers.{IsFileAddress}
use Rattle.macho_tables.specs.declared.data_in_code.DataInCodeEntry.{DataInCodeEntry}
use Rattle.macho_spans.specs.declared.span.Span.{Span}

-- the kind of the entry has a meaning, and its bytes, if it has some, are all in the file bytes of one segment
-- that may be executed
pub record IsLocatedEntry (image : List ℕ) (entry : DataInCodeEntry) : Type 0 where
  pub kind : is_known_kind entry.kind ≡ true
  pub bytes : 0 < entry.length → Any (IsCodeOf image (bytes_of_entry entry)) (all_segments image)

-- a section has offsets of initializers, whose offset k is whole and leads to an executable byte of the file
-- from the base on
pub record IsLocatedOffset (image : List ℕ) (section k : ℕ) : Type 0 where
  pub whole : k * loader.INIT_OFFSET_SIZE + loader.INIT_OFFSET_SIZE ≤ section_size image section
  pub called : IsCalled image (offset_place image section k)

-- of an image
pub record IsLocated (image : List ℕ) : Type 0 where
  -- each function is at the address of a byte of the file
  pub functions : (table : Span) (base : ℕ) → IsDataTable image loader.LC_FUNCTION_STARTS table
      → base_of image (commands_of image) ≡ Some base
      → All (IsFileAddress image) (function_starts (part table.start table.len image) base)
  -- the data in code is whole entries, and each is where it should be
  pub entries : (table : Span) → IsDataTable image loader.LC_DATA_IN_CODE table
      → (count : ℕ) × (table.len ≡ count * loader.DATA_IN_CODE_ENTRY_SIZE)
      × ((k : ℕ) → k < count → IsLocatedEntry image (entry_at (part table.start table.len image) (entry_place k)))
  -- each offset of an initializer that begins in a section is located
  pub initializers : (section : ℕ × ℕ) → Contains (sections_of image (commands_of image)) section
      → HasOffsets image section.0 section.1 → (k : ℕ) → k < offset_count image section.1
      → IsLocatedOffset image section.1 k

-- of a file: each 64-bit slice is such an image
abbrev pub AreLocated : List ℕ → Type 0
AreLocated = OfEachImage IsLocated
