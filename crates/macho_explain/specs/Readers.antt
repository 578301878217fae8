-- What is shown where readers that look in different ways see another slice, command, segment or section.
-- (mach-o/fat.h: fat_arch; mach-o/loader.h: load_command, segment_command_64, section_64)
use Rattle.std.specs.Prelude.{◌≡◌, ◌≢◌, ℕ, ◌+◌, ◌-◌, ◌*◌, ◌%◌, ◌^◌, ◌<◌, ◌≤◌, ◌⊎◌, ◌==◌, ◌||◌, nat_lt, List, Some, IsSomeAnd, MatchOption, slice_get, true, if◌then◌else◌}
use Rattle.std.specs.Option.{unwrap_or}
use Rattle.macho_fields.specs.Field.{field}
use Rattle.macho_fields.specs.Image.{command_cmd}
use Rattle.macho_fields.specs.Segment.{vmaddr, vmsize, fileoff, filesize, initprot, nsects, section_address, section_size}
use Rattle.macho_fields.specs.Universal.{FileSlice, entry_count, entry_slice, slices_of}
use Rattle.macho_fields.specs.declared.bytes.Order.{Order}
use Rattle.macho_fields.specs.declared.bytes.Order.TheVariants.{Big, Little}
use Rattle.macho_fields.specs.declared.header.loader.TheConstants as loader
use Rattle.macho_commands.specs.Commands.{IsThreadEntry}
use Rattle.macho_image.specs.Segment.{maxprot, segment_name}
use Rattle.macho_spans.specs.Span.{end_of, Holds}
use Rattle.macho_spans.specs.declared.span.Span.{Span}
use Rattle.macho_tables.specs.DataInCode.{entry_at, entry_place, entry_count as data_count, bytes_of_entry}
use Rattle.macho_tables.specs.Segments.{is_writable}
use Rattle.macho_tables.specs.declared.data_in_code.DataInCodeEntry.{DataInCodeEntry}
use Rattle.macho_readers.specs.Entry.{is_entry}
use Rattle.macho_readers.specs.Files.{BeginsOffPage, SharesPage, is_judged, is_of_64_bits}
use Rattle.macho_readers.specs.Order.{IsEager, IsRunNumber, segment_number}
use Rattle.macho_readers.specs.Pages.{page_size, page_end}
use Rattle.macho_readers.specs.Segments.{ExceedsMaximum, HasUnevenMemory, IsNameless}
use Rattle.macho_explain.specs.Commanded.{HasEarlier}
use Rattle.macho_explain.specs.Entries.{HasTable}
use Rattle.macho_explain.specs.Explain.{all_loads, all_segment_loads, image_of, long_at, memory_of, platform_shown, word_at, written, HasBase, IsFirstOf, IsSectionOf, IsSegment, IsUncounted}
use Rattle.macho_explain.specs.Parts.{IsBefore, Share}
use Rattle.macho_explain.specs.Wholes.{named_table, IsWhole, Opens}
use Rattle.macho_explain.specs.declared.conflict.Conflict.{Conflict}

-- Slices

-- the big-endian word at a place of a file, 0 where its bytes are not all inside
abbrev pub big_word_at : List ℕ → ℕ → ℕ
big_word_at file place = unwrap_or (field Big 4 file place) 0

-- the word at an offset of a slice, 0 where its bytes are not all inside
abbrev pub slice_word : List ℕ → FileSlice → Order → ℕ → ℕ
slice_word file slice order offset = unwrap_or (field order 4 (image_of file slice) offset) 0

-- the magic number of an image for a processor
abbrev pub magic_of : ℕ → ℕ
magic_of cputype = if is_of_64_bits cputype then loader.MH_MAGIC_64 else loader.MH_MAGIC

-- the slice does not begin with it, nor with its bytes in the other order where no slice of the processor is judged
abbrev pub HasOtherMagic : List ℕ → FileSlice → ℕ → Type 0
HasOtherMagic file slice cputype =
    (slice_word file slice Little 0 ≢ magic_of cputype)
    × ((is_judged cputype ≡ true) ⊎ (slice_word file slice Big 0 ≢ magic_of cputype))

-- the order of the fields of its header
abbrev pub slice_order : List ℕ → FileSlice → Order
slice_order file slice =
    let magic = slice_word file slice Big 0 in
    if (magic == loader.MH_MAGIC) || (magic == loader.MH_MAGIC_64) then Big else Little

-- the processor that its header is for
abbrev pub header_arch : List ℕ → FileSlice → ℕ
header_arch file slice =
    slice_word file slice (slice_order file slice) 4 * 2 ^ 32 + slice_word file slice (slice_order file slice) 8

-- the magic number of the slice, and the one for the processor of its entry; or the processor by the entry, and by the
-- header (fat_arch: cputype at 0, cpusubtype at 4)
abbrev pub IsProcessorShown : List ℕ → ℕ → FileSlice → Conflict → Type 0
IsProcessorShown file place slice c =
    let cputype = big_word_at file place in
    let cpusubtype = big_word_at file (written (place + 4)) in
    (HasOtherMagic file slice cputype × (c.value ≡ slice_word file slice Little 0) × (c.limit ≡ magic_of cputype))
    ⊎ ((¬ HasOtherMagic file slice cputype) × (c.value ≡ cputype * 2 ^ 32 + cpusubtype)
    × (c.limit ≡ header_arch file slice))

-- entry k does not begin at a page, or another slice begins in its pages
abbrev pub IsOffItsPages : List ℕ → ℕ → Type 0
IsOffItsPages file k = BeginsOffPage file k ⊎ SharesPage file k

-- a slice begins at the place
abbrev pub BeginsSlice : List ℕ → ℕ → Type 0
BeginsSlice file place =
    (k : ℕ) × IsSomeAnd (slice_get (slices_of file) k) (λ slice. place ≡ slice.start)

-- no slice begins between two places
abbrev pub HasNoneWithin : List ℕ → ℕ → ℕ → Type 0
HasNoneWithin file start end =
    HasTable file → (k : ℕ) → k < entry_count file
    → ¬ ((start < (entry_slice file k).start) × ((entry_slice file k).start < end))

-- where the slice begins, which is not at a page, and the size of a page
abbrev pub IsOffsetShown : ℕ → FileSlice → Conflict → Type 0
IsOffsetShown page slice c = (c.value ≡ slice.start) × (c.limit ≡ page) × (slice.start % page ≢ 0)

-- where another slice begins, and where the pages end, which have a byte of the slice
abbrev pub IsNextShown : List ℕ → ℕ → FileSlice → Conflict → Type 0
IsNextShown file page slice c =
    let end = page_end page (slice.start + slice.size - 1) in
    (slice.start < c.value) × (c.value < end) × (c.limit ≡ written end) × BeginsSlice file c.value

abbrev pub IsPageShown : List ℕ → ℕ → FileSlice → Conflict → Type 0
IsPageShown file place slice c =
    let page = page_size (big_word_at file place) in
    IsOffsetShown page slice c ⊎ ((slice.start % page ≡ 0) × IsNextShown file page slice c)

-- Commands

-- a command is of the kind of the one at a place: it has versions of the same platform, or the same cmd
abbrev pub IsOfSameKind : List ℕ → ℕ → ℕ → Type 0
IsOfSameKind image place other =
    MatchOption (platform_shown image place) (command_cmd image other ≡ command_cmd image place)
    (λ platform. platform_shown image other ≡ Some platform)

-- the number of its kind
abbrev pub IsKindShown : List ℕ → ℕ → Conflict → Type 0
IsKindShown image place c =
    MatchOption (platform_shown image place) ((c.value ≡ command_cmd image place) × (c.limit ≡ command_cmd image place))
    (λ platform. (c.value ≡ platform) × (c.limit ≡ platform))

-- Segments

-- the address of a mapped segment, at which no page begins; or its offset
abbrev pub IsUnevenShown : List ℕ → ℕ → Conflict → Type 0
IsUnevenShown image place c =
    (c.limit ≡ page_size (word_at image 4))
    × ((HasUnevenMemory c.limit image place × (c.value ≡ vmaddr image place))
    ⊎ ((¬ HasUnevenMemory c.limit image place) × (c.value ≡ fileoff image place)))

-- its initial protection, and its maximum protection if that lacks a bit, or otherwise all bits that have a meaning
abbrev pub IsProtectionShown : List ℕ → ℕ → Conflict → Type 0
IsProtectionShown image place c =
    (c.value ≡ initprot image place)
    × ((ExceedsMaximum image place × (c.limit ≡ maxprot image place))
    ⊎ ((¬ ExceedsMaximum image place) × (c.limit ≡ 7)))

-- flags, at 68 of a segment, and the bit by which a kernel decrypts its pages; or cryptid, at 16 of an
-- encryption_info_command_64
abbrev pub IsEncryptedShown : List ℕ → ℕ → Conflict → Type 0
IsEncryptedShown image place c =
    (IsSegment image place × (c.value ≡ word_at image (place + 68)) × (c.limit ≡ loader.SG_PROTECTED_VERSION_1))
    ⊎ ((¬ IsSegment image place) × (c.value ≡ word_at image (place + 16)) × (c.limit ≡ 0))

-- Numbers

-- a later command of the list has P
abbrev pub HasLater : List ℕ → (ℕ → Type 0) → ℕ → Type 0
HasLater commands P place =
    (k : ℕ) × (later : ℕ) × (slice_get commands k ≡ Some later) × (place < later) × P later

-- a later segment can be written, or a later library is loaded at once
abbrev pub HasLaterSegment : List ℕ → ℕ → Type 0
HasLaterSegment image place =
    (vmsize image place ≡ 0) × HasLater (all_segment_loads image) (λ later. is_writable image later ≡ true) place

abbrev pub HasLaterLibrary : List ℕ → ℕ → Type 0
HasLaterLibrary image place = HasLater (all_loads image) (λ later. IsEager (command_cmd image later)) place

-- the size of the segment, which is not mapped, and of the first later one that can be written
abbrev pub IsUnmappedShown : List ℕ → ℕ → Conflict → Type 0
IsUnmappedShown image place c =
    (vmsize image place ≡ 0) × (c.value ≡ 0)
    × ((later : ℕ) × IsFirstOf (all_segment_loads image) (λ s. (place < s) × (is_writable image s ≡ true)) later
    × (c.limit ≡ vmsize image later))

-- how many segments are before it, and its number by those that have sections, which is another one
abbrev pub AreNumbersShown : List ℕ → ℕ → Conflict → Type 0
AreNumbersShown image place c =
    (c.value ≡ segment_number image place) × IsRunNumber image place c.limit × (c.value ≢ c.limit)

-- the address of its first section, or 0 if it has none
abbrev pub first_address : List ℕ → ℕ → ℕ
first_address image segment =
    if nat_lt 0 (nsects image segment) then section_address image (segment + loader.SEGMENT_COMMAND_64_SIZE) else 0

-- its numbers are the same: its address, and the one of its first section
abbrev pub AreStartsShown : List ℕ → ℕ → Conflict → Type 0
AreStartsShown image place c =
    IsRunNumber image place (segment_number image place) × (c.value ≡ vmaddr image place)
    × (c.limit ≡ first_address image place)

abbrev pub AreSectionsShown : List ℕ → ℕ → Conflict → Type 0
AreSectionsShown image place c =
    (¬ HasLaterSegment image place) × (AreNumbersShown image place c ⊎ AreStartsShown image place c)

-- the cmd of a library, and of the first later one that is loaded at once
abbrev pub IsLateShown : List ℕ → ℕ → Conflict → Type 0
IsLateShown image place c =
    (c.value ≡ command_cmd image place)
    × ((later : ℕ) × IsFirstOf (all_loads image) (λ l. (place < l) × IsEager (command_cmd image l)) later
    × (c.limit ≡ command_cmd image later))

-- a segment that can be compared with later ones, or with its sections; or a library before one that is loaded at once
abbrev pub CanShift : List ℕ → ℕ → Type 0
CanShift image place =
    (IsSegment image place × (HasLaterSegment image place ⊎ Opens image))
    ⊎ ((¬ IsSegment image place) × HasLaterLibrary image place)

-- by a segment, which is not mapped, or has another number or address by its sections; or by a library
abbrev pub IsShiftShown : List ℕ → ℕ → Conflict → Type 0
IsShiftShown image place c =
    (IsSegment image place × (IsUnmappedShown image place c ⊎ AreSectionsShown image place c))
    ⊎ ((¬ IsSegment image place) × IsLateShown image place c)

-- Names

-- a byte past a name, which is not 0
abbrev pub IsTailShown : Conflict → Type 0
IsTailShown c = (0 < c.value) × (c.limit ≡ 0)

-- a byte past the name of a segment; or where its command begins, and an earlier one; or, of a name without letters, its
-- length and the least one; or the address of the segment
abbrev pub IsNameShown : List ℕ → ℕ → Conflict → Type 0
IsNameShown image place c =
    IsTailShown c
    ⊎ ((c.value ≡ place) × (c.limit < place))
    ⊎ (IsNameless image place × (c.value ≡ 0) × (c.limit ≡ 1))
    ⊎ (c.value ≡ vmaddr image place)

-- a byte past the name of a section; or bytes of its segment's name that differ; or where the section begins
abbrev pub IsNamesShown : List ℕ → ℕ → Conflict → Type 0
IsNamesShown image place c = IsTailShown c ⊎ (c.value ≢ c.limit) ⊎ (c.value ≡ place)

-- an earlier segment has this name
abbrev pub IsNamesake : List ℕ → ℕ → List ℕ → ℕ → Type 0
IsNamesake image place name earlier = (earlier < place) × (segment_name image earlier ≡ name)

-- Addresses of sections

-- a byte of the file is what the segment has at an address of the section
abbrev pub IsByteUnder : List ℕ → ℕ → ℕ → ℕ → Type 0
IsByteUnder image segment section at =
    let past = section_address image section - vmaddr image segment in
    (vmaddr image segment ≤ section_address image section)
    × ((k : ℕ) × (k < section_size image section) × (past + k < filesize image segment)
    × (at ≡ fileoff image segment + past + k))

-- a byte that the segment has there, and that is not 0
abbrev pub IsHiddenShown : List ℕ → ℕ → Conflict → Type 0
IsHiddenShown image section c =
    (0 < c.value)
    × ((segment : ℕ) × (at : ℕ) × IsSectionOf image segment section × IsByteUnder image segment section at
    × (slice_get image at ≡ Some c.value))

-- both parts share addresses; or the byte, or the address of the section
abbrev pub IsTakenShown : List ℕ → ℕ → Conflict → Type 0
IsTakenShown image section c =
    Share c ⊎ ((IsHiddenShown image section c ⊎ (c.value ≡ section_address image section)) × (c.limit ≡ 0))

-- Entries

-- the program begins at the address: an LC_MAIN counts it from the base, and a thread has it in a register
abbrev pub IsMainAddress : List ℕ → ℕ → ℕ → Type 0
IsMainAddress image main address =
    (base : ℕ) × IsFirstOf (all_segment_loads image) (HasBase image) base
    × (address ≡ written (vmaddr image base + long_at image (main + 8)))

abbrev pub IsEntryAddress : List ℕ → ℕ → ℕ → Type 0
IsEntryAddress image place address =
    ((command_cmd image place ≡ loader.LC_MAIN) × IsMainAddress image place address)
    ⊎ ((command_cmd image place ≢ loader.LC_MAIN) × Opens image × IsThreadEntry image address)

-- where the byte at the address is in the image, by the first segment that has the address
abbrev pub IsByteOfAddress : List ℕ → ℕ → ℕ → Type 0
IsByteOfAddress image address byte =
    (segment : ℕ) × IsFirstOf (all_segment_loads image) (λ s. Holds (memory_of image s) address) segment
    × (byte ≡ written (fileoff image segment + (address - vmaddr image segment)))

-- where the byte is at which the program begins
abbrev pub IsEntryByte : List ℕ → ℕ → ℕ → Type 0
IsEntryByte image place byte =
    (address : ℕ) × IsEntryAddress image place address × IsByteOfAddress image address byte

-- it is not at the entryoff of an LC_MAIN
abbrev pub IsNotAtOffset : List ℕ → ℕ → ℕ → Type 0
IsNotAtOffset image place byte =
    (command_cmd image place ≡ loader.LC_MAIN) × (long_at image (place + 8) ≢ byte)

-- the entry k of a table of data in code, which has the byte
abbrev pub IsDataEntry : List ℕ → ℕ → DataInCodeEntry → ℕ → Type 0
IsDataEntry table k entry byte =
    (k < data_count table) × (entry ≡ entry_at table (entry_place k)) × Holds (bytes_of_entry entry) byte

-- an entry has the byte, and ends there
abbrev pub HasDataUpTo : List ℕ → ℕ → ℕ → Type 0
HasDataUpTo table byte end =
    (k : ℕ) × (entry : DataInCodeEntry) × IsDataEntry table k entry byte × (end ≡ end_of (bytes_of_entry entry))

abbrev pub IsDataUpTo : List ℕ → ℕ → ℕ → Type 0
IsDataUpTo image byte end =
    (table : Span) × (bytes : List ℕ) × IsWhole image (named_table image loader.LC_DATA_IN_CODE) table bytes
    × HasDataUpTo bytes byte end

-- entryoff, and where the byte is; or where it is, and where the data ends that has it
abbrev pub IsOtherByteShown : List ℕ → ℕ → ℕ → Conflict → Type 0
IsOtherByteShown image place byte c =
    (IsNotAtOffset image place byte × (c.value ≡ long_at image (place + 8)) × (c.limit ≡ byte))
    ⊎ ((¬ IsNotAtOffset image place byte) × (c.value ≡ byte) × IsDataUpTo image byte c.limit)

-- no reader finds another entry
abbrev pub IsOneEntry : List ℕ → ℕ → Type 0
IsOneEntry image place =
    Opens image → (byte : ℕ) → IsEntryByte image place byte
    → (¬ IsNotAtOffset image place byte) × ((end : ℕ) → ¬ IsDataUpTo image byte end)

-- where the byte is, and where it should be; or 0, where no reader finds another entry
abbrev pub IsEntryByteShown : List ℕ → ℕ → Conflict → Type 0
IsEntryByteShown image place c =
    ((byte : ℕ) × IsEntryByte image place byte × IsOtherByteShown image place byte c)
    ⊎ (IsOneEntry image place × (c.limit ≡ 0))

-- the filetype, of another kind than a program; or the byte at which a program begins
abbrev pub IsOtherEntryShown : List ℕ → ℕ → Conflict → Type 0
IsOtherEntryShown image place c =
    ((word_at image 12 ≢ loader.MH_EXECUTE) × (c.value ≡ word_at image 12) × (c.limit ≡ loader.MH_EXECUTE))
    ⊎ ((word_at image 12 ≡ loader.MH_EXECUTE) × IsEntryByteShown image place c)

-- an earlier command that says where the program begins; or what else shows that this one must not say it
abbrev pub IsBadStartShown : List ℕ → ℕ → Conflict → Type 0
IsBadStartShown image place c =
    ((c.value ≡ command_cmd image place) × (is_entry c.limit ≡ true) × IsBefore c)
    ⊎ ((¬ IsUncounted image → ¬ HasEarlier (all_loads image) (λ earlier. is_entry (command_cmd image earlier) ≡ true) place)
    × IsOtherEntryShown image place c)
