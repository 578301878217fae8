-- The plain dyld over chained fixups: it takes the starts, the page starts and the pointers as they are in
-- memory, writes each pointer where it read it, and checks nothing. Memory has a byte for each address, and is
-- the memory of an image loaded at its base, which is where the segments named __TEXT are (header-home).
-- (mach-o/fixup-chains.h)
use Rattle.std.specs.Prelude.{◌≡◌, ◌≢◌, ℕ, zero, suc, ◌+◌, ◌*◌, ◌≤◌, ◌<◌, ◌==◌, ◌⊎◌, List, length, Any, Contains, Option, Some, None, IfSome, IsSomeAnd, true, false, slice_get, slice_index, if◌then◌else◌}
use Rattle.macho_fields.specs.Field.{number, part, HasZero}
use Rattle.macho_fields.specs.Image.{commands_of}
use Rattle.macho_fields.specs.LoadCommands.{linkedit_data_table}
use Rattle.macho_fields.specs.Segment.{all_segments, base_of, vmaddr, vmsize, fileoff, filesize}
use Rattle.macho_fields.specs.Symbol.{table_at}
use Rattle.macho_fields.specs.Universal.{OfEachImage}
use Rattle.macho_fields.specs.declared.bytes.Order.TheVariants.{Little}
use Rattle.macho_chains.specs.ChainHeader.{chain_header}
use Rattle.macho_chains.specs.ChainImports.{import_offset, import_name_start, names_size, IsOfNoLibrary}
use Rattle.macho_chains.specs.ChainPointers.{pointer_of}
use Rattle.macho_chains.specs.ChainStarts.{pointer_format, entry_offset}
use Rattle.macho_chains.specs.Chains.{chained_fixups}
use Rattle.macho_tables.specs.Memory.{bytes_from, IsKept}
use Rattle.macho_tables.specs.Homes.{Encrypts}
use Rattle.macho_tables.specs.Limits.{budget_of, library_count}
use Rattle.macho_tables.specs.Segments.{is_protected, is_writable, IsLinkedit}
use Rattle.macho_chains.specs.declared.chain_header.ChainHeader.{ChainHeader}
use Rattle.macho_chains.specs.declared.chain_pointers.ChainPointer.{ChainPointer}
use Rattle.macho_chains.specs.declared.chain_starts.PointerFormat.{PointerFormat}
use Rattle.macho_fields.specs.declared.header.fixup_chains.TheConstants as chained
use Rattle.macho_tables.specs.declared.limits.TheConstants as size
use Rattle.macho_spans.specs.Span.{Covers}

-- What a loader has: memory, how many segments it is done with, how many pages of the next one, and the
-- address of the pointer that comes next in a chain
pub record ChainState : Type 0 where
  pub memory : ℕ → ℕ
  pub segment : ℕ
  pub page : ℕ
  pub next : Option ℕ

-- a number of so many bytes at an address
abbrev pub number_in : (ℕ → ℕ) → ℕ → ℕ → ℕ
number_in memory width address = number Little width (bytes_from memory address width) 0

-- What is in memory where the table begins at `home`. dyld_chained_fixups_header: starts_offset at 4
abbrev pub array_in : (ℕ → ℕ) → ℕ → ℕ
array_in memory home = home + number_in memory 4 (home + 4)

-- dyld_chained_starts_in_image: seg_count at 0, and seg_info_offset at 4
abbrev pub count_in : (ℕ → ℕ) → ℕ → ℕ
count_in memory home = number_in memory 4 (array_in memory home)

abbrev pub entry_in : (ℕ → ℕ) → ℕ → ℕ → ℕ
entry_in memory home k = number_in memory 4 (array_in memory home + 4 + k * 4)

abbrev pub starts_in : (ℕ → ℕ) → ℕ → ℕ → ℕ
starts_in memory home k = array_in memory home + entry_in memory home k

-- dyld_chained_starts_in_segment: page_size at 4, pointer_format 6, segment_offset 8, page_count 20, and the
-- page starts at 22
abbrev pub page_count_in : (ℕ → ℕ) → ℕ → ℕ → ℕ
page_count_in memory home k =
    if entry_in memory home k == 0 then 0 else number_in memory 2 (starts_in memory home k + 20)

abbrev pub format_in : (ℕ → ℕ) → ℕ → ℕ → Option PointerFormat
format_in memory home k = pointer_format (number_in memory 2 (starts_in memory home k + 6))

abbrev pub page_start_in : (ℕ → ℕ) → ℕ → ℕ → ℕ → ℕ
page_start_in memory home k page = number_in memory 2 (starts_in memory home k + 22 + page * 2)

-- the address of a page, in an image that is loaded at its base
abbrev pub page_address : ℕ → (ℕ → ℕ) → ℕ → ℕ → ℕ → ℕ
page_address base memory home k page =
    base + number_in memory 8 (starts_in memory home k + 8)
    + page * number_in memory 2 (starts_in memory home k + 4)

-- the address of its first pointer
abbrev pub first_in_page : ℕ → (ℕ → ℕ) → ℕ → ℕ → ℕ → Option ℕ
first_in_page base memory home k page =
    if page_start_in memory home k page == chained.DYLD_CHAINED_PTR_START_NONE then None
    else Some (page_address base memory home k page + page_start_in memory home k page)

-- the address of the pointer after one
abbrev pub next_pointer : ℕ → ChainPointer → Option ℕ
next_pointer address pointer = if pointer.distance == 0 then None else Some (address + pointer.distance)

-- The loader is done with a segment.
pub record TurnsSegment (home : ℕ) (a b : ChainState) : Type 0 where
  pub between : a.next ≡ None
  pub left : a.segment < count_in a.memory home
  pub done : page_count_in a.memory home a.segment ≤ a.page
  pub segment : b.segment ≡ suc a.segment
  pub page : b.page ≡ 0
  pub next : b.next ≡ None
  pub memory : (address : ℕ) → b.memory address ≡ a.memory address

-- It reads a page start.
pub record TurnsPage (image : List ℕ) (home : ℕ) (a b : ChainState) : Type 0 where
  pub between : a.next ≡ None
  pub left : a.segment < count_in a.memory home
  pub more : a.page < page_count_in a.memory home a.segment
  pub segment : b.segment ≡ a.segment
  pub page : b.page ≡ suc a.page
  pub next : (base : ℕ) → base_of image (commands_of image) ≡ Some base
      → b.next ≡ first_in_page base a.memory home a.segment a.page
  pub memory : (address : ℕ) → b.memory address ≡ a.memory address

-- It reads a pointer, and writes it. Whatever it writes, the other bytes of memory stay.
pub record Follows (home : ℕ) (a b : ChainState) : Type 0 where
  pub address : ℕ
  pub at : a.next ≡ Some address
  pub segment : b.segment ≡ a.segment
  pub page : b.page ≡ a.page
  pub next : (format : PointerFormat) → format_in a.memory home a.segment ≡ Some format
      → b.next ≡ next_pointer address (pointer_of format (number_in a.memory size.POINTER_SIZE address))
  pub memory : (other : ℕ) → (b.memory other ≡ a.memory other) ⊎ Covers address size.POINTER_SIZE other

-- what it does next
abbrev pub ChainMoves : List ℕ → ℕ → ChainState → ChainState → Type 0
ChainMoves image home a b = (TurnsSegment home a b ⊎ TurnsPage image home a b) ⊎ Follows home a b

-- it does so n times
abbrev pub ChainReaches : List ℕ → ℕ → ChainState → ℕ → ChainState → Type 0
ChainReaches image home first zero last = first ≡ last
ChainReaches image home first (suc n) last =
    (next : ChainState) × ChainMoves image home first next × ChainReaches image home next n last

-- Memory has the bytes of the file, except those that a kernel decrypts. It is so when an image has been
-- mapped, and nothing has been written yet.
abbrev pub IsInMemory : List ℕ → (ℕ → ℕ) → Type 0
IsInMemory image memory =
    (s k : ℕ) → Contains (all_segments image) s → 0 < vmsize image s → is_protected image s ≡ false
    → k < filesize image s
    → (¬ Any (Encrypts (record { start = fileoff image s + k; len = 1 }) image) (commands_of image))
    → memory (vmaddr image s + k) ≡ slice_index image (fileoff image s + k)

-- The table of the chained fixups begins at an address of memory: where some segment named __LINKEDIT has
-- it.
pub record IsChainTableAt (image : List ℕ) (table : ℕ × ℕ × ℕ) (home : ℕ) : Type 0 where
  pub named : IsSomeAnd (chained_fixups image) (λ command. table ≡ table_at image command linkedit_data_table)
  pub found : Any (λ s. IsLinkedit image s × (home + fileoff image s ≡ vmaddr image s + table.0)) (all_segments image)

-- an import is in the table, with its name, and from a library that is there
pub record IsImportThere (image chains : List ℕ) (header : ChainHeader) (import : ℕ) : Type 0 where
  pub inside : import_offset header (suc import) ≤ length chains
  pub named : HasZero chains (import_name_start chains header import) (length chains)
  pub library : ¬ IsOfNoLibrary (library_count image) chains header import

-- a whole pointer is at the address, in the file bytes of a segment that can be written, and memory has
-- these 8 bytes as the file has them
pub record IsPointerThere (image : List ℕ) (memory : ℕ → ℕ) (segment address : ℕ) : Type 0 where
  pub place : ℕ
  pub offset : ℕ
  pub there : slice_get (all_segments image) segment ≡ Some place
  pub written : is_writable image place ≡ true
  pub inside : offset + size.POINTER_SIZE ≤ filesize image place
  pub at : address ≡ vmaddr image place + offset
  pub unwritten : (k : ℕ) → k < size.POINTER_SIZE
      → memory (address + k) ≡ slice_index image (fileoff image place + offset + k)

-- What is promised of the loader after it has done n things
pub record IsChainSafe (image chains : List ℕ) (header : ChainHeader) (home n : ℕ) (a : ChainState) : Type 0 where
  -- there are no more than bytes in the table and pointers in what can be written
  pub ends : n ≤ length chains + budget_of image
  -- the table in memory is still the file's, and so is all that no loader writes
  pub same : (k : ℕ) → k < length chains → a.memory (home + k) ≡ slice_index chains k
  pub kept : IsKept image a.memory
  -- what it reads next of the table lies in it: the number of entries, an entry, starts, and a page start
  pub counted : header.starts_offset + 4 ≤ length chains
  pub entry : a.segment < count_in a.memory home → entry_offset header (suc a.segment) ≤ length chains
  pub starts : a.segment < count_in a.memory home → entry_in a.memory home a.segment ≢ 0
      → starts_in a.memory home a.segment + 22 + page_count_in a.memory home a.segment * 2 ≤ home + length chains
  pub format : a.segment < count_in a.memory home → entry_in a.memory home a.segment ≢ 0
      → (known : PointerFormat) × (format_in a.memory home a.segment ≡ Some known)
  -- the pointer that it reads next is one of a segment that has starts; it is there, and nothing has been
  -- written over it
  pub started : IfSome a.next (λ address. (a.segment < count_in a.memory home) × (entry_in a.memory home a.segment ≢ 0))
  pub pointer : IfSome a.next (IsPointerThere image a.memory a.segment)
  -- if it binds, it is an import of the table; each import is there, and their names have no more bytes
  -- than the table
  pub bound : (address : ℕ) (format : PointerFormat) → a.next ≡ Some address
      → format_in a.memory home a.segment ≡ Some format
      → IfSome (pointer_of format (number_in a.memory size.POINTER_SIZE address)).import
      (λ import. import < header.imports_count)
  pub imports : (import : ℕ) → import < header.imports_count → IsImportThere image chains header import
  pub names : names_size chains header header.imports_count ≤ length chains

-- The loader that begins with memory as it was mapped is safe, whatever it meets.
abbrev pub IsChainedSafely : List ℕ → Type 0
IsChainedSafely image =
    (table : ℕ × ℕ × ℕ) (home n : ℕ) (first last : ChainState) → IsChainTableAt image table home
    → IsInMemory image first.memory → first.segment ≡ 0 → first.page ≡ 0 → first.next ≡ None
    → ChainReaches image home first n last
    → IsSomeAnd (chain_header (part table.0 table.1 image))
    (λ header. IsChainSafe image (part table.0 table.1 image) header home n last)

-- of a file: so is each 64-bit slice
abbrev pub AreChainedSafely : List ℕ → Type 0
AreChainedSafely = OfEachImage IsChainedSafely
