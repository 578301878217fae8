-- What the struct of an image shows. (mach-o/loader.h: mach_header_64)
use Rattle.std.specs.Prelude.{◌≡◌, ℕ, ◌+◌, ◌/◌, ◌^◌, ◌≤◌, ◌<◌, ◌⊎◌, List, [], ◌∷◌, length, Option, None, Some, slice_get}
use Rattle.std.specs.Option.{option_map, option_map_or, unwrap_or}
use Rattle.macho_fields.specs.First.{rank, IsUnbroken}
use Rattle.macho_fields.specs.Image.{word, cpu_type, cpu_subtype, file_type, commands_of}
use Rattle.macho_fields.specs.Layers.{BreaksUpTo, KeptBelow, NothingBreaks}
use Rattle.macho_fields.specs.Rules.{BreaksFile, BreaksImage}
use Rattle.macho_fields.specs.Segment.{section_count, base_of}
use Rattle.macho_fields.specs.Symbol.{ilocalsym, nlocalsym, iextdefsym, nextdefsym, iundefsym, nundefsym}
use Rattle.macho_fields.specs.Universal.{FileSlice, slices_of, slice_bytes, masked, IsImage, IsUnreadImage, IsForeign}
use Rattle.macho_fields.specs.declared.header.loader.TheConstants as loader
use Rattle.macho_fields.specs.declared.rule.Rule.TheVariants as rule
use Rattle.macho_image.specs.Command.{first_with_cmd}
use Rattle.macho_image.specs.Entry.{entry_of}
use Rattle.macho_image.specs.Single.{uuid_at}
use Rattle.macho_image.specs.Symbol.{symtab_at, dysymtab_at}
use Rattle.macho_image.specs.declared.dysymtab.Dysymtab.{Dysymtab}
use Rattle.macho_image.specs.declared.symtab.Symtab.{Symtab}
use Rattle.macho_rows.specs.Builds.{builds_in}
use Rattle.macho_rows.specs.Commands.{commands_in}
use Rattle.macho_rows.specs.Libraries.{loaded_by, library_row, no_library}
use Rattle.macho_rows.specs.Rows.{IsBrokenImage, HasUnbrokenHeaders}
use Rattle.macho_rows.specs.Segments.{segments_seen}
use Rattle.macho_rows.specs.Spans.{part_or_none, span_at}
use Rattle.macho_rows.specs.declared.image.KesvuotImage.{KesvuotImage}
use Rattle.macho_rows.specs.declared.image.SliceImage.{SliceImage}
use Rattle.macho_rows.specs.declared.image.SliceImage.TheVariants.{Read, Unread}

-- Parts that an image has once, or not at all

-- the only command with this cmd
abbrev pub only : List ℕ → ℕ → Option ℕ
only image cmd = first_with_cmd image cmd (commands_of image)

abbrev pub uuid_in : List ℕ → Option (List ℕ)
uuid_in image = option_map (uuid_at image) (only image loader.LC_UUID)

abbrev pub symtab_in : List ℕ → Option Symtab
symtab_in image = option_map (symtab_at image) (only image loader.LC_SYMTAB)

abbrev pub dysymtab_in : List ℕ → Option Dysymtab
dysymtab_in image = option_map (dysymtab_at image) (only image loader.LC_DYSYMTAB)

-- LC_ID_DYLIB
abbrev pub id_in : List ℕ → Option ℕ
id_in image = only image loader.LC_ID_DYLIB

-- a field of a part, which is 0 where the part is not there
abbrev pub field_of : {T : Type 0} → (T → ℕ) → Option T → ℕ
field_of read None = 0
field_of read (Some part) = read part

-- the bit of a part that is there
abbrev pub bit : {T : Type 0} → ℕ → Option T → ℕ
bit b None = 0
bit b (Some part) = b

-- the groups of symbols
abbrev pub groups_at : List ℕ → ℕ → List ℕ
groups_at image dysymtab =
    ilocalsym image dysymtab ∷ nlocalsym image dysymtab ∷ iextdefsym image dysymtab
    ∷ nextdefsym image dysymtab ∷ iundefsym image dysymtab ∷ nundefsym image dysymtab ∷ []

abbrev pub no_groups : List ℕ
no_groups = 0 ∷ 0 ∷ 0 ∷ 0 ∷ 0 ∷ 0 ∷ []

abbrev pub no_uuid : List ℕ
no_uuid = 0 ∷ 0 ∷ 0 ∷ 0 ∷ 0 ∷ 0 ∷ 0 ∷ 0 ∷ 0 ∷ 0 ∷ 0 ∷ 0 ∷ 0 ∷ 0 ∷ 0 ∷ 0 ∷ []

abbrev pub no_words : List ℕ
no_words = 0 ∷ 0 ∷ 0 ∷ 0 ∷ []

-- What the struct shows of an image, by its parts

-- mach_header_64: cputype, cpusubtype and filetype; flags at 24
pub record ShowsHeader (image : List ℕ) (row : KesvuotImage) : Type 0 where
  pub cputype : row.cputype ≡ cpu_type image
  pub cpusubtype : row.cpusubtype ≡ masked (cpu_subtype image)
  pub capabilities : row.capabilities ≡ cpu_subtype image / 2 ^ 24
  pub filetype : row.filetype ≡ file_type image
  pub flags : row.flags ≡ word image 24

-- how many rows the tables have
pub record ShowsCounts (image : List ℕ) (row : KesvuotImage) : Type 0 where
  pub commands : row.command_count ≡ length (commands_in image)
  pub segments : row.segment_count ≡ length (segments_seen image)
  pub sections : row.section_count ≡ section_count image (commands_of image)
  pub libraries : row.library_count ≡ length (loaded_by image)
  pub builds : row.build_count ≡ length (builds_in image)

-- the tables of LC_SYMTAB and LC_DYSYMTAB
pub record ShowsTables (image : List ℕ) (row : KesvuotImage) : Type 0 where
  pub symbols : row.symbols ≡ field_of (λ (t : Symtab). t.symoff) (symtab_in image)
  pub symbol_count : row.symbol_count ≡ field_of (λ (t : Symtab). t.nsyms) (symtab_in image)
  pub strings : row.strings ≡ field_of (λ (t : Symtab). t.stroff) (symtab_in image)
  pub strings_size : row.strings_size ≡ field_of (λ (t : Symtab). t.strsize) (symtab_in image)
  pub indirects :
      row.indirects ≡ field_of (λ (t : Dysymtab). t.indirectsymoff) (dysymtab_in image)
  pub indirect_count :
      row.indirect_count ≡ field_of (λ (t : Dysymtab). t.nindirectsyms) (dysymtab_in image)
  pub groups : row.groups ≡ unwrap_or (option_map (groups_at image) (only image loader.LC_DYSYMTAB)) no_groups

-- the others; the image begins at `start` in the file
pub record ShowsParts (image : List ℕ) (start : ℕ) (row : KesvuotImage) : Type 0 where
  pub id : row.id ≡ option_map_or (library_row start image) (id_in image) no_library
  pub uuid : row.uuid ≡ unwrap_or (uuid_in image) no_uuid
  pub base : row.base ≡ unwrap_or (base_of image (commands_of image)) 0
  pub entry : row.entry ≡ unwrap_or (entry_of image (commands_of image)) 0
  pub has : row.has
      ≡ bit 1 (uuid_in image) + bit 2 (base_of image (commands_of image))
      + bit 4 (entry_of image (commands_of image)) + bit 8 (symtab_in image)
      + bit 16 (dysymtab_in image) + bit 32 (id_in image)
  pub reserved : row.reserved ≡ no_words

-- the whole, in these bytes that begin at the place in the file
pub record Shows (image : List ℕ) (start : ℕ) (row : KesvuotImage) : Type 0 where
  pub offset : row.slice.offset ≡ start
  pub size : row.slice.size ≡ length image
  pub header : ShowsHeader image row
  pub counts : ShowsCounts image row
  pub tables : ShowsTables image row
  pub parts : ShowsParts image start row

-- the bytes of the slice that a struct names in a file, and none where it ends past the file
abbrev pub image_in : List ℕ → KesvuotImage → List ℕ
image_in file row = part_or_none row.slice.offset row.slice.size file

-- The struct shows the image in its slice of the file, as kesvuot_read_image writes it, and the image
-- breaks no rule: none of an accepted file does.
abbrev pub ShowsUnbroken : List ℕ → KesvuotImage → Type 0
ShowsUnbroken file row =
    Shows (image_in file row) row.slice.offset row
    × (arch : Option (ℕ × ℕ)) × NothingBreaks (BreaksImage (image_in file row) arch)

-- nothing is shown but what may be known of an image that is not read
pub record ShowsOutside (start size cpu subtype : ℕ) (row : KesvuotImage) : Type 0 where
  pub slice : row.slice ≡ span_at start size
  pub cputype : row.cputype ≡ cpu
  pub cpusubtype : row.cpusubtype ≡ subtype
  pub capabilities : row.capabilities ≡ 0
  pub filetype : row.filetype ≡ 0
  pub flags : row.flags ≡ 0
  pub has : row.has ≡ 0
  pub base : row.base ≡ 0
  pub entry : row.entry ≡ 0
  pub symbols : row.symbols ≡ 0
  pub symbol_count : row.symbol_count ≡ 0
  pub strings : row.strings ≡ 0
  pub strings_size : row.strings_size ≡ 0
  pub indirects : row.indirects ≡ 0
  pub indirect_count : row.indirect_count ≡ 0
  pub command_count : row.command_count ≡ 0
  pub segment_count : row.segment_count ≡ 0
  pub section_count : row.section_count ≡ 0
  pub library_count : row.library_count ≡ 0
  pub build_count : row.build_count ≡ 0
  pub id : row.id ≡ no_library
  pub groups : row.groups ≡ no_groups
  pub uuid : row.uuid ≡ no_uuid
  pub reserved : row.reserved ≡ no_words

abbrev pub ShowsNothing : KesvuotImage → Type 0
ShowsNothing row = ShowsOutside 0 0 0 0 row

-- The answer on a slice

-- the file breaks a rule without which it has no slices to look for, up to fat-truncated
abbrev pub HasNoTable : List ℕ → Type 0
HasNoTable file = BreaksUpTo (BreaksFile file) rule.FatTruncated

-- it breaks no such rule
abbrev pub HasTable : List ℕ → Type 0
HasTable file = KeptBelow (BreaksFile file) (rank rule.FatTruncated + 1)

-- the slice has an image that is read, whose headers break no rule, and which the struct shows
abbrev pub IsRead : List ℕ → FileSlice → KesvuotImage → Type 0
IsRead file slice row =
    (slice.start + slice.size ≤ length file) × IsImage (slice_bytes file slice)
    × HasUnbrokenHeaders (slice_bytes file slice) slice.arch × Shows (slice_bytes file slice) slice.start row

-- the slice has an image that is not read, of the architecture that the table names
abbrev pub IsUnread : List ℕ → FileSlice → KesvuotImage → Type 0
IsUnread file slice row =
    let arch = unwrap_or slice.arch (0, 0) in
    (slice.start + slice.size ≤ length file) × IsUnreadImage (slice_bytes file slice)
    × ShowsOutside slice.start slice.size arch.0 arch.1 row

-- the slice ends past the file, is not an image at all, or its headers break a rule
abbrev pub IsBad : List ℕ → FileSlice → Type 0
IsBad file slice =
    (length file < slice.start + slice.size) ⊎ IsForeign (slice_bytes file slice)
    ⊎ (IsImage (slice_bytes file slice) × IsBrokenImage (slice_bytes file slice) slice.arch)

-- no accepted file has these bytes: neither its table nor the slice with this index
abbrev pub IsRefusedAt : List ℕ → ℕ → Type 0
IsRefusedAt file index =
    (¬ IsUnbroken file)
    × (HasNoTable file
    ⊎ ((slice : FileSlice) × (slice_get (slices_of file) index ≡ Some slice) × IsBad file slice))

-- What only proofs need.

-- the image of a slice
abbrev pub IsSliceImage : List ℕ → FileSlice → Option SliceImage → Type 0
IsSliceImage file slice (Some (Read row)) = IsRead file slice row
IsSliceImage file slice (Some (Unread row)) = IsUnread file slice row
IsSliceImage file slice None = IsBad file slice
