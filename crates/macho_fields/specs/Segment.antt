-- Segments, their sections, and what is at an address. A segment and a section are named by the
-- place of their structure. (mach-o/loader.h: segment_command_64, section_64, entry_point_command)
use Rattle.std.specs.Prelude.{◌&&◌, ◌||◌, ◌≡◌, ◌≢◌, ℕ, ◌+◌, ◌-◌, ◌*◌, ◌%◌, ◌^◌, ◌≤◌, ◌<◌, ◌==◌, ◌⊎◌, nat_lt, List, length, map, find, sum_by, Any, Contains, Option, Some, None, IsSomeAnd, Bool, false, bit_and, if◌then◌else◌}
use Rattle.std.specs.List.{range_with_len}
use Rattle.std.specs.Option.{option_map}
use Rattle.macho_spans.specs.Span.{Covers}
use Rattle.macho_fields.specs.Image.{word, long, commands_of, with_cmd}
use Rattle.macho_fields.specs.LoadCommands.{section_records}
use Rattle.macho_fields.specs.declared.header.loader.TheConstants as loader
use Rattle.macho_fields.specs.declared.header.vm_prot.TheConstants as vm_prot

-- the segments of an image, in order: those among some of its commands, and all
abbrev pub segments_of : List ℕ → List ℕ → List ℕ
segments_of image commands = with_cmd image loader.LC_SEGMENT_64 commands

abbrev pub all_segments : List ℕ → List ℕ
all_segments image = segments_of image (commands_of image)

-- segment_command_64: vmaddr at 24, vmsize 32, fileoff 40, filesize 48, initprot 60, and nsects
abbrev pub vmaddr : List ℕ → ℕ → ℕ
vmaddr image segment = long image (segment + 24)

abbrev pub vmsize : List ℕ → ℕ → ℕ
vmsize image segment = long image (segment + 32)

abbrev pub fileoff : List ℕ → ℕ → ℕ
fileoff image segment = long image (segment + 40)

abbrev pub filesize : List ℕ → ℕ → ℕ
filesize image segment = long image (segment + 48)

abbrev pub initprot : List ℕ → ℕ → ℕ
initprot image segment = word image (segment + 60)

abbrev pub nsects : List ℕ → ℕ → ℕ
nsects image segment = word image (segment + section_records.count)

-- the sections of a segment, the section_64 that follow its segment_command_64
abbrev pub sections_in : List ℕ → ℕ → List ℕ
sections_in image segment =
    map (λ k. segment + loader.SEGMENT_COMMAND_64_SIZE + loader.SECTION_64_SIZE * k)
    (range_with_len 0 (nsects image segment))

-- how many sections an image has: they are numbered from 1 over all its segments
abbrev pub section_count : List ℕ → List ℕ → ℕ
section_count image commands = sum_by (nsects image) (segments_of image commands)

-- P holds of a segment and of that one of its sections which is at the place
abbrev pub AtSection : List ℕ → List ℕ → (ℕ → ℕ → Type 0) → ℕ → Type 0
AtSection image commands P place =
    Any (λ segment. Contains (sections_in image segment) place × P segment place)
    (segments_of image commands)

-- section_64: addr at 32, size 40, offset 48, reloff 56, nreloc 60, flags 64
abbrev pub section_address : List ℕ → ℕ → ℕ
section_address image section = long image (section + 32)

abbrev pub section_size : List ℕ → ℕ → ℕ
section_size image section = long image (section + 40)

abbrev pub section_offset : List ℕ → ℕ → ℕ
section_offset image section = word image (section + 48)

abbrev pub reloff : List ℕ → ℕ → ℕ
reloff image section = word image (section + 56)

abbrev pub nreloc : List ℕ → ℕ → ℕ
nreloc image section = word image (section + 60)

abbrev pub section_flags : List ℕ → ℕ → ℕ
section_flags image section = word image (section + 64)

-- the low byte of the flags is the type (SECTION_TYPE), and three types have no bytes in the file
abbrev pub is_zero_fill : List ℕ → ℕ → Bool
is_zero_fill image section =
    let section_type = section_flags image section % 256 in
    section_type == loader.S_ZEROFILL || section_type == loader.S_GB_ZEROFILL
    || section_type == loader.S_THREAD_LOCAL_ZEROFILL

-- Addresses

-- a segment supplies an address: one of the vmsize addresses from vmaddr on
abbrev pub Supplies : List ℕ → ℕ → ℕ → Type 0
Supplies image segment address = Covers (vmaddr image segment) (vmsize image segment) address

-- what is at an address: the byte at a place of the slice, or a zero
pub data Source : Type 0 where
  File : (place : ℕ) → Source
  Zero : Source

-- what a segment has at an address that it supplies: its filesize bytes of the file, then zeros
abbrev pub source : List ℕ → ℕ → ℕ → Source
source image segment address =
    let past = address - vmaddr image segment in
    if nat_lt past (filesize image segment) then File (fileoff image segment + past) else Zero

-- what is at an address of an image: what the segment that supplies it has there, or none where no
-- segment supplies it
abbrev pub IsAtAddress : List ℕ → ℕ → Option Source → Type 0
IsAtAddress image address given =
    ((segment : ℕ) → Contains (all_segments image) segment
    → Supplies image segment address → given ≡ Some (source image segment address))
    × (((segment : ℕ) → Contains (all_segments image) segment
    → ¬ Supplies image segment address) → given ≡ None)

-- The bytes of a section of a mapped segment are where its addresses say, among those that the
-- segment has in the file.
abbrev pub IsInFilePart : List ℕ → ℕ → ℕ → Type 0
IsInFilePart image segment section =
    let past = section_address image section - vmaddr image segment in
    (section_offset image section ≡ fileoff image segment + past)
    × (past + section_size image section ≤ filesize image segment)

-- a segment is mapped, and has the start of the file
abbrev pub shows_start : List ℕ → ℕ → Bool
shows_start image segment =
    fileoff image segment == 0 && nat_lt 0 (filesize image segment)
    && nat_lt 0 (vmsize image segment)

-- the vmaddr of the first such segment
abbrev pub base_of : List ℕ → List ℕ → Option ℕ
base_of image commands =
    option_map (vmaddr image) (find (shows_start image) (segments_of image commands))

-- entry_point_command: entryoff at 8, which is counted from the base
abbrev pub entryoff : List ℕ → ℕ → ℕ
entryoff image command = long image (command + 8)

-- the segment has a byte of the file at the address, and its initprot allows execution
-- (mach/vm_prot.h: VM_PROT_EXECUTE)
abbrev pub RunsAt : List ℕ → ℕ → ℕ → Type 0
RunsAt image address segment =
    Supplies image segment address × (address < vmaddr image segment + filesize image segment)
    × (bit_and (initprot image segment) vm_prot.VM_PROT_EXECUTE ≢ 0)

-- some segment runs at the address
abbrev pub IsExecutable : List ℕ → List ℕ → ℕ → Type 0
IsExecutable image commands address = Any (RunsAt image address) (segments_of image commands)

-- What the rules of segments and sections say of one of them

-- the addresses of the segment end past 2^64
abbrev pub PassesLastAddress : List ℕ → ℕ → Type 0
PassesLastAddress image segment = 2 ^ 64 < vmaddr image segment + vmsize image segment

-- the segment is mapped, and has more bytes in the file than in memory
abbrev pub IsLongerInFile : List ℕ → ℕ → Type 0
IsLongerInFile image segment =
    (0 < vmsize image segment) × (vmsize image segment < filesize image segment)

-- the segment has bytes in the file, and they end past the image
abbrev pub PassesImage : List ℕ → ℕ → Type 0
PassesImage image segment =
    (0 < filesize image segment) × (length image < fileoff image segment + filesize image segment)

-- an earlier segment supplies an address of the segment
abbrev pub OverlapsEarlier : List ℕ → List ℕ → ℕ → Type 0
OverlapsEarlier image commands segment =
    Any (λ earlier. (earlier < segment)
    × ((address : ℕ) × Supplies image earlier address × Supplies image segment address))
    (segments_of image commands)

-- the segment is mapped, and its section has an address outside the segment
abbrev pub IsOutsideMemory : List ℕ → ℕ → ℕ → Type 0
IsOutsideMemory image segment section =
    (0 < vmsize image segment) × (0 < section_size image section)
    × ¬ ((vmaddr image segment ≤ section_address image section)
    × (section_address image section + section_size image section
    ≤ vmaddr image segment + vmsize image segment))

-- The section has bytes, and they are not where its addresses say; or, where the segment is not
-- mapped, they end past the image.
abbrev pub IsMisplaced : List ℕ → ℕ → ℕ → Type 0
IsMisplaced image segment section =
    (0 < section_size image section) × (is_zero_fill image section ≡ false)
    × (((0 < vmsize image segment) × ¬ IsInFilePart image segment section)
    ⊎ ((vmsize image segment ≡ 0)
    × (length image < section_offset image section + section_size image section)))

-- the section has relocations, and they end past the image
-- (mach-o/reloc.h: relocation_info of 8 bytes)
abbrev pub HasRelocsOutside : List ℕ → ℕ → Type 0
HasRelocsOutside image section =
    (0 < nreloc image section) × (length image < reloff image section + 8 * nreloc image section)

-- the image has no base, or no segment runs at the address that the LC_MAIN names
abbrev pub HasNoEntry : List ℕ → List ℕ → ℕ → Type 0
HasNoEntry image commands main =
    ¬ IsSomeAnd (base_of image commands)
    (λ base. IsExecutable image commands (base + entryoff image main))
