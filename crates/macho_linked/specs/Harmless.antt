-- What the opcodes of an image that breaks no rule ask of a dynamic loader: which pointers it writes, and
-- where. It does not say what the memory of a loader has.
use Rattle.std.specs.Prelude.{◌≡◌, ℕ, ◌+◌, ◌*◌, ◌≤◌, ◌<◌, List, [], ◌∷◌, length, map, Any, Contains, Some, true, slice_get, IsSomeAnd}
use Rattle.macho_fields.specs.Field.{part}
use Rattle.macho_fields.specs.Image.{commands_of}
use Rattle.macho_fields.specs.Segment.{all_segments, base_of, vmaddr, filesize, Supplies}
use Rattle.macho_fields.specs.Symbol.{table_at}
use Rattle.macho_fields.specs.Universal.{OfEachImage}
use Rattle.macho_opcodes.specs.Cursor.{cursor_after}
use Rattle.macho_tables.specs.Homes.{IsHome}
use Rattle.macho_opcodes.specs.Images.{opcodes_of, fields_of}
use Rattle.macho_tables.specs.Places.{dyld_info}
use Rattle.macho_tables.specs.Limits.{budget_of, library_count}
use Rattle.macho_tables.specs.Segments.{is_writable, IsText}
use Rattle.macho_opcodes.specs.Steps.{step_at, AreSteps}
use Rattle.macho_opcodes.specs.Streams.{pointers}
use Rattle.macho_opcodes.specs.declared.step.Opcodes.{Opcodes}
use Rattle.macho_opcodes.specs.declared.step.Opcodes.TheVariants as opcodes
use Rattle.macho_opcodes.specs.declared.step.Step.{Step}
use Rattle.macho_opcodes.specs.declared.step.Step.TheVariants as step
use Rattle.macho_tables.specs.declared.limits.TheConstants as size
use Rattle.macho_opcodes.specs.declared.streams.Stream.{Stream}
use Rattle.macho_opcodes.specs.declared.streams.Stream.TheVariants as streams
use Rattle.macho_spans.specs.declared.span.Span.{Span}

-- the streams of a command: their opcodes, and the tables that are their bytes
abbrev pub all_streams : List Stream
all_streams = streams.Rebase ∷ streams.Bind ∷ streams.WeakBind ∷ streams.LazyBind ∷ []

abbrev pub streams_of : List ℕ → ℕ → List (Opcodes × (ℕ × ℕ × ℕ))
streams_of image command =
    map (λ one. (opcodes_of one, table_at image command (fields_of one))) all_streams

-- the bytes of one of the streams of an image
pub record IsStream (image : List ℕ) (of : Opcodes) (stream : List ℕ) : Type 0 where
  pub bounded : IsSomeAnd (dyld_info image)
      (λ command. (table : ℕ × ℕ × ℕ) × Contains (streams_of image command) (of, table)
      × (stream ≡ part table.0 table.1 image))

-- after these steps of a stream an opcode writes so many pointers, one `skip` bytes past the other
abbrev pub WritesAt : Opcodes → List ℕ → List Step → ℕ → ℕ → Type 0
WritesAt of stream before count skip =
    (place : ℕ) × (after : ℕ) × AreSteps of stream before place
    × (step_at of stream place ≡ Some (step.Write count skip, after))

-- an opcode of a stream, at the place
abbrev pub SaysAt : Opcodes → List ℕ → ℕ → Step → Type 0
SaysAt of stream place said =
    (before : List Step) × (after : ℕ) × AreSteps of stream before place
    × (step_at of stream place ≡ Some (said, after))

-- the opcodes of a stream ask for a pointer at an offset of the segment with this index
abbrev pub IsSlot : Opcodes → List ℕ → ℕ → ℕ → Type 0
IsSlot of stream segment offset =
    (before : List Step) × (count : ℕ) × (skip : ℕ) × (k : ℕ) × WritesAt of stream before count skip
    × (k < count) × ((cursor_after before).segment ≡ Some segment)
    × (offset ≡ (cursor_after before).offset + k * (size.POINTER_SIZE + skip))

-- of an image
pub record IsHarmless (image : List ℕ) : Type 0 where
  -- the bytes of each stream are opcodes up to its end
  pub decoded : (of : Opcodes) (stream : List ℕ) → IsStream image of stream
      → (steps : List Step) × AreSteps of stream steps (length stream)
  -- an opcode that writes has a segment
  pub set : (of : Opcodes) (stream : List ℕ) (before : List Step) (count skip : ℕ) → IsStream image of stream
      → WritesAt of stream before count skip → 0 < count
      → (segment : ℕ) × ((cursor_after before).segment ≡ Some segment)
  -- each slot is a whole pointer in the file bytes of a segment that is there, and can be written
  pub slots : (of : Opcodes) (stream : List ℕ) (segment offset : ℕ) → IsStream image of stream
      → IsSlot of stream segment offset
      → (s : ℕ) × (slice_get (all_segments image) segment ≡ Some s) × (is_writable image s ≡ true)
      × (offset + size.POINTER_SIZE ≤ filesize image s)
  -- the opcodes of a stream ask for no more pointers than fit into such segments
  pub few : (of : Opcodes) (stream : List ℕ) (before : List Step) (place : ℕ) → IsStream image of stream
      → AreSteps of stream before place → pointers before ≤ budget_of image
  -- a bind has a name, and each library that is named is there
  pub named : (of : Opcodes) (stream : List ℕ) (before : List Step) (count skip : ℕ) → IsStream image of stream
      → ¬ (of ≡ opcodes.Rebase) → WritesAt of stream before count skip → 0 < count
      → (name : Span) × ((cursor_after before).name ≡ Some name)
  pub libraries : (of : Opcodes) (stream : List ℕ) (place ordinal : ℕ) → IsStream image of stream
      → ¬ (of ≡ opcodes.Rebase) → SaysAt of stream place (step.SetLibrary ordinal)
      → ordinal ≤ library_count image
  -- a segment that can be written has no address of a home of any table
  pub apart : (s home address : ℕ) (table : Span) → Contains (all_segments image) s
      → Contains (all_segments image) home → is_writable image s ≡ true → IsHome table image home
      → Supplies image s address → ¬ Supplies image home address
  -- a loader that takes the slide from a segment by its name has the right one: some segment is named __TEXT, and
  -- each one that is has the base as its address
  pub text : (base : ℕ) × (base_of image (commands_of image) ≡ Some base) × Any (IsText image) (all_segments image)
      × ((s : ℕ) → Contains (all_segments image) s → IsText image s → vmaddr image s ≡ base)

-- of a file: each 64-bit slice is such an image
abbrev pub AreHarmless : List ℕ → Type 0
AreHarmless = OfEachImage IsHarmless
