-- What explains a refusal: what is at the place, and the numbers that a rule compares. (kesvuot.h: struct
-- kesvuot_explanation)
use Rattle.std.specs.Prelude.{◌≡◌, ℕ, ◌+◌, ◌-◌, ◌*◌, ◌^◌, ◌≤◌, ◌<◌, ◌⊎◌, ◌==◌, min, if◌then◌else◌, List, length, map, take, Option, Some, IfSome, slice_get, true}
use Rattle.std.specs.List.{sum_by}
use Rattle.std.specs.Option.{unwrap_or}
use Rattle.macho_fields.specs.Field.{field}
use Rattle.macho_fields.specs.Image.{command_cmd, command_size, commands_of}
use Rattle.macho_image.specs.Segment.{maxprot, reserved1, reserved2}
use Rattle.macho_fields.specs.Segment.{vmaddr, vmsize, fileoff, filesize, initprot, nsects, section_address, section_size, section_offset, section_flags, reloff, nreloc}
use Rattle.macho_fields.specs.Universal.{FileSlice}
use Rattle.macho_fields.specs.declared.bytes.Order.TheVariants.{Little}
use Rattle.macho_fields.specs.declared.load_command.TableFields.{TableFields}
use Rattle.macho_fields.specs.declared.load_command.Width.TheVariants.{Uint32}
use Rattle.macho_image.specs.Symbol.{symbols_of, symbol_at}
use Rattle.macho_image.specs.declared.symbol.Symbol.{Symbol}
use Rattle.macho_tables.specs.Kinds.{share_kind}
use Rattle.macho_rows.specs.Cursor.{start as first_cursor}
use Rattle.macho_rows.specs.Loads.{version_min_platform, wanted_left, IsLoad}
use Rattle.macho_rows.specs.Sections.{nsects_at}
use Rattle.macho_rows.specs.Segments.{last_address}
use Rattle.macho_rows.specs.Spans.{part_or_none}
use Rattle.macho_spans.specs.Span.{Holds, Shares}
use Rattle.macho_spans.specs.declared.span.Span.{Span}
use Rattle.macho_tables.specs.Homes.{bytes_of_segment}
use Rattle.macho_tables.specs.Segments.{is_writable}
use Rattle.macho_readers.specs.Entry.{is_entry}
use Rattle.macho_readers.specs.Order.{IsEager}
use Rattle.macho_fields.specs.declared.header.loader.TheConstants as loader
use Rattle.macho_explain.specs.declared.section.SectionAt.{SectionAt}
use Rattle.macho_explain.specs.declared.segment.SegmentAt.{SegmentAt}
use Rattle.macho_explain.specs.declared.segment.SegmentWith.{SegmentWith}
use Rattle.macho_explain.specs.declared.segment.SegmentWith.TheVariants as with
use Rattle.macho_explain.specs.declared.walk.Sought.{Sought}
use Rattle.macho_explain.specs.declared.walk.Sought.TheVariants as sought
use Rattle.macho_explain.specs.declared.walk.Walked.{Walked}
use Rattle.macho_rows.specs.declared.load.Wanted.TheVariants as wanted

-- the number in the word at a place, and in the 8 bytes there, 0 where these are not all inside
abbrev pub word_at : List ℕ → ℕ → ℕ
word_at image place = unwrap_or (field Little 4 image place) 0

abbrev pub long_at : List ℕ → ℕ → ℕ
long_at image place = unwrap_or (field Little 8 image place) 0

-- a number as it is written: the largest of 64 bits where it has more
abbrev pub written : ℕ → ℕ
written number = min number (2 ^ 64 - 1)

-- the platform whose versions a command has, if it has some (build_version_command: platform at 8)
abbrev pub platform_shown : List ℕ → ℕ → Option ℕ
platform_shown image command =
    if command_cmd image command == loader.LC_BUILD_VERSION then field Little 4 image (command + 8)
    else version_min_platform (command_cmd image command)

-- the bytes of a slice, and none where it ends past the file
abbrev pub image_of : List ℕ → FileSlice → List ℕ
image_of file slice = part_or_none slice.start slice.size file

-- the load commands of any bytes, as many as can be walked to, as kesvuot_read_commands gives them
abbrev pub all_loads : List ℕ → List ℕ
all_loads image = wanted_left wanted.All image first_cursor

-- those that are segments, and hold their sections
abbrev pub all_segment_loads : List ℕ → List ℕ
all_segment_loads image = wanted_left wanted.Segments image first_cursor

-- the command is a segment of the image
abbrev pub IsSegment : List ℕ → ℕ → Type 0
IsSegment image segment = (k : ℕ) × (slice_get (all_segment_loads image) k ≡ Some segment)

-- the first with P of some places, in their order
pub record IsFirstOf (places : List ℕ) (P : ℕ → Type 0) (place : ℕ) : Type 0 where
  pub index : ℕ
  pub listed : slice_get places index ≡ Some place
  pub has : P place
  pub first : (k earlier : ℕ) → k < index → slice_get places k ≡ Some earlier → ¬ P earlier

-- the addresses of a segment
abbrev pub memory_of : List ℕ → ℕ → Span
memory_of image segment = record { start = vmaddr image segment; len = vmsize image segment }

-- the segment is mapped, and the image begins with its bytes: its first address is the base
abbrev pub HasBase : List ℕ → ℕ → Type 0
HasBase image segment =
    (fileoff image segment ≡ 0) × (0 < filesize image segment) × (0 < vmsize image segment)

-- how many sections the first of them have, so many
abbrev pub sections_before : List ℕ → ℕ → ℕ
sections_before image index = sum_by (nsects_at image) (take index (all_loads image))

-- the command with the index has the byte at the place
abbrev pub IsCommandAt : List ℕ → ℕ → ℕ → Type 0
IsCommandAt image index place =
    (command : ℕ) × (slice_get (all_loads image) index ≡ Some command)
    × (command ≤ place) × (place < command + command_size image command)

-- the structure of the section with the index has the byte at the place: it is the nth one of a command,
-- after the sections of the commands before
abbrev pub IsSectionAt : List ℕ → ℕ → ℕ → Type 0
IsSectionAt image index place =
    (j : ℕ) × (command : ℕ) × (nth : ℕ) × (slice_get (all_loads image) j ≡ Some command)
    × (nth < nsects_at image command) × (index ≡ sections_before image j + nth)
    × (command + 72 + 80 * nth ≤ place) × (place < command + 72 + 80 * nth + 80)

-- the symbol with the index is at the place
abbrev pub IsSymbolAt : List ℕ → ℕ → ℕ → Type 0
IsSymbolAt image index place =
    (symbol : Symbol)
    × (slice_get (map (symbol_at image) (symbols_of image (commands_of image))) index ≡ Some symbol)
    × (symbol.place ≡ place)

-- What only proofs need.

-- the command at a place is one that is sought
abbrev pub Meets : List ℕ → Sought → ℕ → Type 0
Meets image (sought.From place) command = command ≡ place
Meets image (sought.At place) command =
    (command ≤ place) × (place < command + command_size image command)
Meets image (sought.First cmd) command = command_cmd image command ≡ cmd
Meets image (sought.OfKind cmd) command = share_kind (command_cmd image command) cmd ≡ true
Meets image (sought.OfPlatform platform) command = platform_shown image command ≡ Some platform
Meets image (sought.EagerPast place) command = (place < command) × IsEager (command_cmd image command)
Meets image sought.Entry command = is_entry (command_cmd image command) ≡ true

-- no command is
abbrev pub NoneMeets : List ℕ → Sought → Type 0
NoneMeets image which =
    (k command : ℕ) → slice_get (all_loads image) k ≡ Some command → ¬ Meets image which command

-- none of the first commands is, so many
abbrev pub NoneMeetsBefore : List ℕ → Sought → ℕ → Type 0
NoneMeetsBefore image which index =
    (k command : ℕ) → k < index → slice_get (all_loads image) k ≡ Some command → ¬ Meets image which command

-- there are more commands, or sections, than are counted: no file has so many
abbrev pub IsUncounted : List ℕ → Type 0
IsUncounted image =
    (2 ^ 32 ≤ length (all_loads image)) ⊎ ((k : ℕ) × (2 ^ 64 ≤ sections_before image k))

-- the cmd of the command that is sought
abbrev pub MeetsLimit : Sought → ℕ → Type 0
MeetsLimit (sought.From place) cmd = Unit {0}
MeetsLimit (sought.At place) cmd = Unit {0}
MeetsLimit (sought.First wanted) cmd = cmd ≡ wanted
MeetsLimit (sought.OfKind wanted) cmd = share_kind cmd wanted ≡ true
MeetsLimit (sought.OfPlatform platform) cmd = Unit {0}
MeetsLimit (sought.EagerPast place) cmd = IsEager cmd
MeetsLimit sought.Entry cmd = is_entry cmd ≡ true

-- the first command that is sought, with its index, and how many sections are before it
pub record IsWalked (image : List ℕ) (which : Sought) (walked : Walked) : Type 0 where
  pub listed : slice_get (all_loads image) walked.index ≡ Some walked.load.place
  pub load : IsLoad image walked.load
  pub past : 32 ≤ walked.load.place
  pub meets : Meets image which walked.load.place
  pub first : NoneMeetsBefore image which walked.index
  pub sections : walked.sections ≡ sections_before image walked.index

-- the fields bound a table by its bytes, in a field of 32 bits
abbrev pub IsOfBytes : TableFields → Type 0
IsOfBytes fields = (fields.width ≡ Uint32) × (fields.item_size ≡ 1)

-- the fields of the segment that is found
pub record IsSegmentRow (image : List ℕ) (segment : SegmentAt) : Type 0 where
  pub start : segment.row.vmaddr ≡ vmaddr image segment.place
  pub size : segment.row.vmsize ≡ vmsize image segment.place
  pub last : segment.row.last ≡ last_address (vmaddr image segment.place) (vmsize image segment.place)
  pub file_start : segment.row.fileoff ≡ fileoff image segment.place
  pub file_size : segment.row.filesize ≡ filesize image segment.place
  pub maxprot : segment.row.maxprot ≡ maxprot image segment.place
  pub initprot : segment.row.initprot ≡ initprot image segment.place
  pub sections : segment.row.section_count ≡ nsects image segment.place

-- the segment whose command is at a place is one that is sought
abbrev pub MeetsSegment : List ℕ → SegmentWith → ℕ → Type 0
MeetsSegment image (with.Command place) segment = segment ≡ place
MeetsSegment image with.Base segment = HasBase image segment
MeetsSegment image with.Start segment = (fileoff image segment ≡ 0) × (0 < vmsize image segment)
MeetsSegment image (with.Address address) segment = Holds (memory_of image segment) address
MeetsSegment image (with.FileByte place) segment = Holds (bytes_of_segment image segment) place
MeetsSegment image (with.SharingMemory span end) segment =
    (segment < end) × Shares span (memory_of image segment)
MeetsSegment image (with.SharingFile span end) segment =
    (segment < end) × Shares span (bytes_of_segment image segment)
MeetsSegment image (with.WritablePast place) segment = (place < segment) × (is_writable image segment ≡ true)

-- no segment is
abbrev pub NoSegmentMeets : List ℕ → SegmentWith → Type 0
NoSegmentMeets image wanted =
    (k segment : ℕ) → slice_get (all_segment_loads image) k ≡ Some segment
    → ¬ MeetsSegment image wanted segment

-- the first segment that is sought, with its fields
pub record IsSegmentFound (image : List ℕ) (wanted : SegmentWith) (segment : SegmentAt) : Type 0 where
  pub row : IsSegmentRow image segment
  pub meets : MeetsSegment image wanted segment.place
  pub first : IsFirstOf (all_segment_loads image) (MeetsSegment image wanted) segment.place
  pub near : segment.place < 2 ^ 33

-- the fields of the section that is found
pub record IsSectionRow (image : List ℕ) (section : SectionAt) : Type 0 where
  pub start : section.row.addr ≡ section_address image section.place
  pub size : section.row.size ≡ section_size image section.place
  pub file_start : section.row.offset ≡ section_offset image section.place
  pub relocs : section.row.reloff ≡ reloff image section.place
  pub reloc_count : section.row.nreloc ≡ nreloc image section.place
  pub flags : section.row.flags ≡ section_flags image section.place
  pub reserved1 : section.row.reserved1 ≡ reserved1 image section.place
  pub reserved2 : section.row.reserved2 ≡ reserved2 image section.place

-- the section is one of a command
abbrev pub IsSectionOf : List ℕ → ℕ → ℕ → Type 0
IsSectionOf image command section =
    (nth : ℕ) × (nth < nsects_at image command) × (section ≡ command + 72 + 80 * nth)

-- the structure of the nth section of a command has the byte at the place
abbrev pub IsNthSection : List ℕ → ℕ → ℕ → ℕ → Type 0
IsNthSection image command nth place =
    (nth < nsects_at image command) × (command + 72 + 80 * nth ≤ place) × (place < command + 72 + 80 * nth + 80)

-- the section that has a place, with its fields
pub record IsSectionFound (image : List ℕ) (place : ℕ) (section : SectionAt) : Type 0 where
  pub row : IsSectionRow image section
  pub at : IfSome section.index (λ index. IsSectionAt image index place)
  pub from : section.place ≤ place
  pub to : place < section.place + 80
  pub start : IsSectionOf image section.segment section.place
