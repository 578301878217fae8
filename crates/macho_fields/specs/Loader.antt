-- The plain loader, which follows the headers and has no bounds of its own, and what an accepted
-- file promises it.
use Rattle.std.specs.Prelude.{◌≡◌, ◌≢◌, ℕ, ◌+◌, ◌*◌, ◌≤◌, ◌<◌, ◌⊎◌, List, length, false, Any, slice_index, Some, All, Contains, slice_get, IsSomeAnd}
use Rattle.macho_fields.specs.Field.{HasZero}
use Rattle.macho_spans.specs.Span.{Covers}
use Rattle.macho_fields.specs.Universal.{FileSlice, slices_of, HasPlace, IsUniversal, table_end, OfEachImage}
use Rattle.macho_fields.specs.Image.{command_size, with_cmd, AreCommands}
use Rattle.macho_fields.specs.Command.{HasStructure, least_size, IsNamed, name_start}
use Rattle.macho_fields.specs.Segment.{segments_of, sections_in, fileoff, filesize, section_size, section_offset, reloff, nreloc, is_zero_fill, vmsize, section_address, Supplies, File, source, base_of, entryoff, IsExecutable}
use Rattle.macho_fields.specs.Symbol.{nsyms, symoff, stroff, strsize, n_strx, tables_of}
use Rattle.macho_fields.specs.declared.header.loader.TheConstants as loader
use Rattle.macho_fields.specs.declared.header.nlist.TheConstants as nlist
use Rattle.macho_fields.specs.declared.header.reloc.TheConstants as reloc

-- A name, by its start and by the end of what must contain it: the name of a command, and the
-- command; or the name of a symbol with an n_strx, and the string table.
abbrev pub IsName : List ℕ → List ℕ → ℕ → ℕ → Type 0
IsName image commands start end =
    Any (λ command. IsNamed image command
    × (start ≡ name_start image command) × (end ≡ command + command_size image command)) commands
    ⊎ Any (λ symtab. (k : ℕ) × (k < nsyms image symtab)
    × let strx = n_strx image (symoff image symtab + nlist.NLIST_64_SIZE * k) in
    (strx ≢ 0) × (start ≡ stroff image symtab + strx)
    × (end ≡ stroff image symtab + strsize image symtab))
    (with_cmd image loader.LC_SYMTAB commands)

-- A table, by its start and its length in bytes: one that a command bounds, or the relocations of a
-- section (mach-o/reloc.h: relocation_info).
abbrev pub IsTable : List ℕ → List ℕ → ℕ → ℕ → Type 0
IsTable image commands start len =
    Any (λ command. Any (λ table. (0 < table.1) × (start ≡ table.0) × (len ≡ table.1 * table.2))
    (tables_of image command)) commands
    ⊎ Any (λ segment. Any (λ section. (0 < nreloc image section) × (start ≡ reloff image section)
    × (len ≡ reloc.RELOCATION_INFO_SIZE * nreloc image section)) (sections_in image segment))
    (segments_of image commands)

-- A part, by its start and its length in bytes: a command, the file range of a segment, the file range of a
-- section that is not zero-fill, or a table. It may be empty.
abbrev pub IsPart : List ℕ → List ℕ → ℕ → ℕ → Type 0
IsPart image commands start len =
    Any (λ command. (start ≡ command) × (len ≡ command_size image command)) commands
    ⊎ Any (λ segment. (start ≡ fileoff image segment) × (len ≡ filesize image segment))
    (segments_of image commands)
    ⊎ (Any (λ segment. Any (λ section. (is_zero_fill image section ≡ false)
    × (start ≡ section_offset image section) × (len ≡ section_size image section))
    (sections_in image segment)) (segments_of image commands)
    ⊎ IsTable image commands start len)

-- The loader reads a place: in the header; in a command; in the structure of a listed command and
-- its records; in the file range of a segment; in the file range of a section that is not zero-fill; in a
-- table; in a name, up to the first zero byte. Nothing bounds the place.
pub data Reads (image commands : List ℕ) (place : ℕ) : Type 0 where
  in_header : place < loader.MACH_HEADER_64_SIZE → Reads image commands place
  in_command :
      Any (λ command. Covers command (command_size image command) place) commands
      → Reads image commands place
  in_structure :
      Any (λ command. HasStructure image command (λ structure.
      Covers command (least_size image command structure) place)) commands
      → Reads image commands place
  in_segment :
      Any (λ segment. Covers (fileoff image segment) (filesize image segment) place)
      (segments_of image commands)
      → Reads image commands place
  in_section :
      Any (λ segment. Any (λ section. (is_zero_fill image section ≡ false)
      × Covers (section_offset image section) (section_size image section) place)
      (sections_in image segment)) (segments_of image commands)
      → Reads image commands place
  in_table :
      (start len : ℕ) → IsTable image commands start len → Covers start len place
      → Reads image commands place
  in_name :
      (start end : ℕ) → IsName image commands start end → start ≤ place
      → ((before : ℕ) → start ≤ before → before < place → before < length image
      → slice_index image before ≢ 0)
      → Reads image commands place

-- What an accepted file promises

-- of an image, with the places of its commands
pub record IsSoundImage (image commands : List ℕ) : Type 0 where
  -- the plain loader reads bytes of the image alone
  pub reads : (place : ℕ) → Reads image commands place → place < length image
  -- no address is supplied by two segments
  pub one_segment : (a b address : ℕ)
      → Contains (segments_of image commands) a → Contains (segments_of image commands) b
      → Supplies image a address → Supplies image b address → a ≡ b
  -- a mapped segment supplies each address of its sections, and what it has there is the byte at
  -- the section's place of the file, unless the section is zero-fill
  pub sections : (segment section k : ℕ)
      → Contains (segments_of image commands) segment
      → Contains (sections_in image segment) section
      → 0 < vmsize image segment → k < section_size image section
      → Supplies image segment (section_address image section + k)
      × (is_zero_fill image section ≡ false
      → source image segment (section_address image section + k)
      ≡ File (section_offset image section + k))
  -- each name ends in its command or its string table
  pub names : (start end : ℕ) → IsName image commands start end → HasZero image start end
  -- the entry is at a file byte of a segment that may be executed
  pub entries : (main : ℕ) → Contains (with_cmd image loader.LC_MAIN commands) main
      → IsSomeAnd (base_of image commands)
      (λ base. IsExecutable image commands (base + entryoff image main))

-- of a file
pub record IsSound (file : List ℕ) : Type 0 where
  -- each 64-bit slice is a sound image
  pub images : OfEachImage (λ image. (commands : List ℕ) × AreCommands image commands
      × IsSoundImage image commands) file
  -- each slice lies in the file
  pub inside : All (λ slice. slice.start + slice.size ≤ length file) (slices_of file)
  -- no place lies in two slices
  pub apart : (i j : ℕ) (a b : FileSlice) (place : ℕ)
      → slice_get (slices_of file) i ≡ Some a → slice_get (slices_of file) j ≡ Some b
      → HasPlace a place → HasPlace b place → i ≡ j
  -- no place lies in a slice and in the header or table of a universal file
  pub after_table : IsUniversal file
      → All (λ slice. (place : ℕ) → HasPlace slice place → table_end file ≤ place)
      (slices_of file)
  -- no two slices of a universal file have one architecture
  pub one_arch : (i j : ℕ) (a b : FileSlice) → IsUniversal file
      → slice_get (slices_of file) i ≡ Some a → slice_get (slices_of file) j ≡ Some b
      → a.arch ≡ b.arch → i ≡ j
