-- The plain dyld: a dynamic loader that follows the opcodes of a stream in memory, and checks nothing.
-- Memory has a byte for each address, and has an image loaded at its base, which is where the segments
-- named __TEXT are (header-home). The loader takes segments as the headers of the file have them: these lie in
-- memory that stays as it is in the file (header-home, IsKept).
use Rattle.std.specs.Prelude.{◌≡◌, ℕ, zero, suc, ◌+◌, ◌*◌, ◌≤◌, ◌<◌, ◌⊎◌, List, length, Any, Contains, Some, true, slice_get, slice_index, IsSomeAnd}
use Rattle.macho_fields.specs.Field.{part}
use Rattle.macho_fields.specs.Segment.{all_segments, vmaddr, fileoff, filesize}
use Rattle.macho_fields.specs.Universal.{OfEachImage}
use Rattle.macho_opcodes.specs.Cursor.{start, moved, cursor_after, writes}
use Rattle.macho_linked.specs.Harmless.{streams_of}
use Rattle.macho_tables.specs.Places.{dyld_info}
use Rattle.macho_tables.specs.Memory.{bytes_from, IsKept}
use Rattle.macho_tables.specs.Segments.{is_writable, IsLinkedit}
use Rattle.macho_opcodes.specs.Steps.{step_at, IsLastOpcode, AreSteps}
use Rattle.macho_opcodes.specs.declared.cursor.Cursor.{Cursor}
use Rattle.macho_opcodes.specs.declared.step.Opcodes.{Opcodes}
use Rattle.macho_opcodes.specs.declared.step.Step.{Step}
use Rattle.macho_opcodes.specs.declared.step.Step.TheVariants as step
use Rattle.macho_tables.specs.declared.limits.TheConstants as size
use Rattle.macho_spans.specs.Span.{Covers}

-- What a loader has: memory, its place in the stream, and what the opcodes before have set
pub record State : Type 0 where
  pub memory : ℕ → ℕ
  pub place : ℕ
  pub cursor : Cursor

-- The loader takes what is in memory at a place of the stream for an opcode, and goes on at `after`. It
-- reads as many bytes as it needs, whether or not they are of the stream.
abbrev pub Takes : Opcodes → (ℕ → ℕ) → ℕ → ℕ → Step → ℕ → Type 0
Takes of memory home place said after =
    (n : ℕ) × (step_at of (bytes_from memory home n) place ≡ Some (said, after))

-- how many bytes are between two pointers that a step writes
abbrev pub skip_of : Step → ℕ
skip_of (step.Write count skip) = skip
skip_of other = 0

-- the offset in the segment of the pointer k that a step writes
abbrev pub slot : Cursor → Step → ℕ → ℕ
slot cursor said k = cursor.offset + k * (size.POINTER_SIZE + skip_of said)

-- The step writes to the address: it is one of the 8 of a pointer. Where its segment is not set or not
-- there, this can be any address.
abbrev pub IsWritten : List ℕ → Cursor → Step → ℕ → Type 0
IsWritten image cursor said address =
    (k : ℕ) × (k < writes said)
    × ((segment s : ℕ) → cursor.segment ≡ Some segment → slice_get (all_segments image) segment ≡ Some s
    → Covers (vmaddr image s + slot cursor said k) size.POINTER_SIZE address)

-- The loader does what one opcode says. Whatever it writes, the other bytes of memory stay.
abbrev pub Moves : List ℕ → Opcodes → ℕ → ℕ → State → State → Type 0
Moves image of home len a b =
    (said : Step) × (a.place < len) × Takes of a.memory home a.place said b.place
    × (¬ IsLastOpcode of (a.memory (home + a.place)))
    × (b.cursor ≡ moved a.cursor said)
    × ((address : ℕ) → (b.memory address ≡ a.memory address) ⊎ IsWritten image a.cursor said address)

-- it does so n times
abbrev pub Reaches : List ℕ → Opcodes → ℕ → ℕ → State → ℕ → State → Type 0
Reaches image of home len first zero last = first ≡ last
Reaches image of home len first (suc n) last =
    (next : State) × Moves image of home len first next × Reaches image of home len next n last

-- A stream of the image, by its opcodes and the table of its bytes, begins at an address of memory: where
-- some segment named __LINKEDIT has it.
pub record BeginsInMemory (image : List ℕ) (of : Opcodes) (table : ℕ × ℕ × ℕ) (home : ℕ) : Type 0 where
  pub named : IsSomeAnd (dyld_info image) (λ command. Contains (streams_of image command) (of, table))
  pub found : Any (λ s. IsLinkedit image s × (home + fileoff image s ≡ vmaddr image s + table.0)) (all_segments image)

-- What is promised of the loader after n opcodes of such a stream
pub record IsSafe (image : List ℕ) (of : Opcodes) (stream : List ℕ) (home n : ℕ) (a : State) : Type 0 where
  -- it has followed opcodes of the file, at most one for each byte of the stream
  pub ends : n ≤ length stream
  pub follows : (before : List Step) × (length before ≡ n) × AreSteps of stream before a.place
      × (a.cursor ≡ cursor_after before)
  -- the stream in memory is still the file's, and so is all that no loader writes
  pub same : (k : ℕ) → k < length stream → a.memory (home + k) ≡ slice_index stream k
  pub kept : IsKept image a.memory
  -- the opcode that comes next lies in the stream, with its operands
  pub inside : (said : Step) (after : ℕ) → a.place < length stream → Takes of a.memory home a.place said after
      → ¬ IsLastOpcode of (a.memory (home + a.place)) → after ≤ length stream
  -- and each pointer that it writes is whole, in the file bytes of a segment that can be written
  pub writes : (said : Step) (after k : ℕ) → a.place < length stream
      → Takes of a.memory home a.place said after → ¬ IsLastOpcode of (a.memory (home + a.place)) → k < writes said
      → (segment : ℕ) × (s : ℕ) × (a.cursor.segment ≡ Some segment)
      × (slice_get (all_segments image) segment ≡ Some s) × (is_writable image s ≡ true)
      × (slot a.cursor said k + size.POINTER_SIZE ≤ filesize image s)

-- Whatever the loader meets in a stream of the image, it is safe: it begins with memory that is kept, and
-- so it leaves it for the next stream.
abbrev pub IsFollowedSafely : List ℕ → Type 0
IsFollowedSafely image =
    (of : Opcodes) (table : ℕ × ℕ × ℕ) (home n : ℕ) (first last : State) → BeginsInMemory image of table home
    → IsKept image first.memory → first.place ≡ 0 → first.cursor ≡ start
    → Reaches image of home table.1 first n last
    → IsSafe image of (part table.0 table.1 image) home n last

-- of a file: so is each 64-bit slice
abbrev pub AreFollowedSafely : List ℕ → Type 0
AreFollowedSafely = OfEachImage IsFollowedSafely
