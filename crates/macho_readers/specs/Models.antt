-- The answers of readers, question by question, and that all of them agree. A model of a reader is a relation between a
-- question and an answer. It may have none: a reader that refuses shows no other program.
use Rattle.std.specs.Prelude.{◌≡◌, ℕ, ◌+◌, ◌*◌, ◌/◌, ◌%◌, ◌≤◌, ◌<◌, ◌==◌, ◌&&◌, ◌||◌, ◌⊎◌, ◌↔◌, nat_lt, not, filter, List, length, Any, Contains, Some, IsSomeAnd, bit_and, true, Bool}
use Rattle.macho_fields.specs.Field.{number, field}
use Rattle.macho_fields.specs.Image.{command_cmd, commands_of}
use Rattle.macho_fields.specs.Segment.{all_segments, base_of, vmaddr, vmsize, nsects, section_address, initprot, entryoff, shows_start, Supplies}
use Rattle.macho_fields.specs.Universal.{IsUniversal, IsImage, HasPlace, entry_count, entry_slice}
use Rattle.macho_fields.specs.declared.bytes.Order.TheVariants.{Big, Little}
use Rattle.macho_fields.specs.declared.file_type.Kind.TheVariants as kind
use Rattle.macho_fields.specs.declared.header.fat.TheConstants as fat
use Rattle.macho_fields.specs.declared.header.loader.TheConstants as loader
use Rattle.macho_image.specs.Header.{IsKind}
use Rattle.macho_image.specs.Segment.{sections_of, maxprot, section_name, segment_name}
use Rattle.macho_strict.specs.Rules.{HoldsHeaders}
use Rattle.macho_tables.specs.Limits.{loads_library}
use Rattle.macho_tables.specs.Segments.{IsText, is_writable}
use Rattle.macho_readers.specs.Commands.{is_single, platform_of}
use Rattle.macho_readers.specs.Entry.{is_entry, IsFilePlace, SaysEntry, IsDataAt, data_entries}
use Rattle.macho_readers.specs.Files.{entry_bytes, entry_cputype, entry_cpusubtype, header_order, is_wide, is_judged, is_of_64_bits, pages_end}
use Rattle.macho_readers.specs.Fixups.{FixupsName}
use Rattle.macho_readers.specs.Pages.{page_size}
use Rattle.macho_readers.specs.Order.{IsEager, earlier_segments, segment_number, earlier_runs, HasPageZero}
use Rattle.macho_readers.specs.Sections.{segment_name_of, IsDebug, HasAddress}
use Rattle.macho_readers.specs.Segments.{HasTail}

-- any two answers are the same
abbrev pub Agree : {A : Type 0} → (A → Type 0) → Type 0
Agree {A} Answers = (a b : A) → Answers a → Answers b → a ≡ b

-- a reader takes the first of the places with P, or the last
abbrev pub IsFirstWith : List ℕ → (ℕ → Type 0) → ℕ → Type 0
IsFirstWith places P place =
    Contains places place × P place × ((other : ℕ) → Contains places other → other < place → ¬ P other)

abbrev pub IsLastWith : List ℕ → (ℕ → Type 0) → ℕ → Type 0
IsLastWith places P place =
    Contains places place × P place × ((other : ℕ) → Contains places other → place < other → ¬ P other)

abbrev pub IsEndWith : List ℕ → (ℕ → Type 0) → ℕ → Type 0
IsEndWith places P place = IsFirstWith places P place ⊎ IsLastWith places P place

-- What kind of file is it, where it begins with the magic number of a table of fat_arch?

pub data FileKind : Type 0 where
  UniversalFile : FileKind
  JavaClass : FileKind

-- a Java class has more entries than a table can have (file(1))
abbrev pub IsKindByCount : List ℕ → FileKind → Type 0
IsKindByCount file answer =
    ((30 < entry_count file) × (answer ≡ JavaClass)) ⊎ ((entry_count file ≤ 30) × (answer ≡ UniversalFile))

-- the last byte of nfat_arch, at 7, is the version of a Java class, which is 43 or more (LLVM)
abbrev pub IsKindByVersion : List ℕ → FileKind → Type 0
IsKindByVersion file answer =
    ((43 ≤ entry_count file % 256) × (answer ≡ JavaClass)) ⊎ ((entry_count file % 256 < 43) × (answer ≡ UniversalFile))

-- the verifier says that it is universal
abbrev pub IsKindOfFile : List ℕ → FileKind → Type 0
IsKindOfFile file answer =
    (answer ≡ UniversalFile) ⊎ (IsKindByCount file answer ⊎ IsKindByVersion file answer)

abbrev pub HasOneKindOfFile : List ℕ → Type 0
HasOneKindOfFile file =
    fat.FAT_HEADER_SIZE ≤ length file → number Big 4 file 0 ≡ fat.FAT_MAGIC → Agree (IsKindOfFile file)

-- Which subtype does a slice have that is read? The entry says it, and the header.

abbrev pub IsSubtypeOf : List ℕ → ℕ → ℕ → Type 0
IsSubtypeOf file k answer =
    (answer ≡ entry_cpusubtype file k) ⊎ (field Little 4 (entry_bytes file k) 8 ≡ Some answer)

abbrev pub HasOneSubtype : List ℕ → Type 0
HasOneSubtype file =
    IsUniversal file → (k : ℕ) → k < entry_count file → IsImage (entry_bytes file k) → Agree (IsSubtypeOf file k)

-- Which slices are there for a judged processor? A reader takes those whose entry has the cputype (xnu), those whose
-- header has it (LLVM, Go), those whose entry has it and whose magic number has its width, or those whose entry has it
-- and that are read (the verifier).

abbrev pub IsSliceByHeader : List ℕ → ℕ → ℕ → Type 0
IsSliceByHeader file cputype k =
    let bytes = entry_bytes file k in field (header_order bytes) 4 bytes 4 ≡ Some cputype

abbrev pub IsSliceByWidth : List ℕ → ℕ → ℕ → Type 0
IsSliceByWidth file cputype k =
    (entry_cputype file k ≡ cputype) × (is_wide (entry_bytes file k) ≡ is_of_64_bits cputype)

abbrev pub IsSliceThatIsRead : List ℕ → ℕ → ℕ → Type 0
IsSliceThatIsRead file cputype k = (entry_cputype file k ≡ cputype) × IsImage (entry_bytes file k)

-- the others take those whose entry has the cputype
abbrev pub TakeSameSlice : List ℕ → ℕ → ℕ → Type 0
TakeSameSlice file cputype k =
    (IsSliceByHeader file cputype k ↔ (entry_cputype file k ≡ cputype))
    × (IsSliceByWidth file cputype k ↔ (entry_cputype file k ≡ cputype))
    × (IsSliceThatIsRead file cputype k ↔ (entry_cputype file k ≡ cputype))

abbrev pub HasOneSetOfSlices : List ℕ → Type 0
HasOneSetOfSlices file =
    IsUniversal file → (cputype : ℕ) → is_judged cputype ≡ true → (k : ℕ) → k < entry_count file
    → TakeSameSlice file cputype k

-- Which slice has a byte of the file? The slice with its place (the verifier), or the slice that is read and has it in
-- its pages (a kernel, which maps these whole).

abbrev pub IsInPages : List ℕ → ℕ → ℕ → Type 0
IsInPages file k place =
    let page = page_size (entry_cputype file k) in
    IsImage (entry_bytes file k) × ((entry_slice file k).start / page * page ≤ place) × (place < pages_end file k)

abbrev pub IsSliceOfByte : List ℕ → ℕ → ℕ → Type 0
IsSliceOfByte file place k =
    (k < entry_count file) × (HasPlace (entry_slice file k) place ⊎ IsInPages file k place)

abbrev pub HasOneSliceOfByte : List ℕ → Type 0
HasOneSliceOfByte file = IsUniversal file → (place : ℕ) → Agree (IsSliceOfByte file place)

-- Which protection does a mapped segment have? initprot, or what of it maxprot and the three bits of vm_prot.h leave.

abbrev pub IsProtectionOf : List ℕ → ℕ → ℕ → Type 0
IsProtectionOf image segment answer =
    (answer ≡ initprot image segment)
    ⊎ (answer ≡ bit_and (bit_and (initprot image segment) (maxprot image segment)) 7)

abbrev pub HasOneProtection : List ℕ → Type 0
HasOneProtection image =
    (segment : ℕ) → Contains (all_segments image) segment → 0 < vmsize image segment
    → Agree (IsProtectionOf image segment)

-- Which segment has a name? The first with it, the last, or the first whose 16 bytes are the name and zeros.

abbrev pub IsSegmentOfName : List ℕ → List ℕ → ℕ → Type 0
IsSegmentOfName image name answer =
    IsEndWith (all_segments image) (λ segment. segment_name image segment ≡ name) answer
    ⊎ IsFirstWith (all_segments image)
    (λ segment. (segment_name image segment ≡ name) × ¬ HasTail image (segment + 8)) answer

abbrev pub HasOneSegmentOfName : List ℕ → Type 0
HasOneSegmentOfName image = (name : List ℕ) → Agree (IsSegmentOfName image name)

-- Where is the base? In the first segment that has the start of the file (the verifier), in the last (xnu), in one that
-- has the headers, in the first that is named __TEXT (dyld), or in the last.

abbrev pub IsBaseOf : List ℕ → ℕ → Type 0
IsBaseOf image answer =
    (base_of image (commands_of image) ≡ Some answer)
    ⊎ ((segment : ℕ) × (answer ≡ vmaddr image segment)
    × (IsLastWith (all_segments image) (λ s. shows_start image s ≡ true) segment
    ⊎ ((Contains (all_segments image) segment × HoldsHeaders image segment)
    ⊎ IsEndWith (all_segments image) (IsText image) segment)))

abbrev pub HasOneBase : List ℕ → Type 0
HasOneBase image = Agree (IsBaseOf image)

-- Which section has a name in a segment with a name? The first, or the last, by the two names of the section (LLVM, Go),
-- or by its own and the segment's (getsectbyname); or the first whose two fields of 16 bytes are the names and zeros.

abbrev pub IsFirstSectionWith : List ℕ → (ℕ × ℕ → Type 0) → ℕ → Type 0
IsFirstSectionWith image P place =
    (section : ℕ × ℕ) × (place ≡ section.1) × Contains (sections_of image (commands_of image)) section × P section
    × ((other : ℕ × ℕ) → Contains (sections_of image (commands_of image)) other → other.1 < place → ¬ P other)

abbrev pub IsLastSectionWith : List ℕ → (ℕ × ℕ → Type 0) → ℕ → Type 0
IsLastSectionWith image P place =
    (section : ℕ × ℕ) × (place ≡ section.1) × Contains (sections_of image (commands_of image)) section × P section
    × ((other : ℕ × ℕ) → Contains (sections_of image (commands_of image)) other → place < other.1 → ¬ P other)

abbrev pub HasNames : List ℕ → List ℕ → List ℕ → ℕ × ℕ → Type 0
HasNames image segment name section =
    (section_name image section.1 ≡ name) × (segment_name_of image section.1 ≡ segment)

abbrev pub HasNameInSegment : List ℕ → List ℕ → List ℕ → ℕ × ℕ → Type 0
HasNameInSegment image segment name section =
    (section_name image section.1 ≡ name) × (segment_name image section.0 ≡ segment)

abbrev pub HasPaddedNames : List ℕ → List ℕ → List ℕ → ℕ × ℕ → Type 0
HasPaddedNames image segment name section =
    HasNames image segment name section × (¬ HasTail image section.1) × ¬ HasTail image (section.1 + 16)

abbrev pub IsSectionOfNames : List ℕ → List ℕ → List ℕ → ℕ → Type 0
IsSectionOfNames image segment name answer =
    IsFirstSectionWith image (HasNames image segment name) answer
    ⊎ (IsLastSectionWith image (HasNames image segment name) answer
    ⊎ (IsFirstSectionWith image (HasNameInSegment image segment name) answer
    ⊎ (IsLastSectionWith image (HasNameInSegment image segment name) answer
    ⊎ IsFirstSectionWith image (HasPaddedNames image segment name) answer)))

abbrev pub HasOneSectionOfNames : List ℕ → Type 0
HasOneSectionOfNames image = (segment name : List ℕ) → Agree (IsSectionOfNames image segment name)

-- Which section is at an address of a segment? The first that readers look for, the last, or the first of a mapped
-- segment.

abbrev pub IsLookedFor : List ℕ → ℕ → ℕ × ℕ → Type 0
IsLookedFor image address section = (¬ IsDebug image section) × HasAddress image section address

abbrev pub IsMappedAt : List ℕ → ℕ → ℕ × ℕ → Type 0
IsMappedAt image address section = (0 < vmsize image section.0) × HasAddress image section address

abbrev pub IsSectionAt : List ℕ → ℕ → ℕ → Type 0
IsSectionAt image address answer =
    IsFirstSectionWith image (IsLookedFor image address) answer
    ⊎ (IsLastSectionWith image (IsLookedFor image address) answer
    ⊎ IsFirstSectionWith image (IsMappedAt image address) answer)

abbrev pub HasOneSectionAt : List ℕ → Type 0
HasOneSectionAt image =
    (address : ℕ) → Any (λ segment. Supplies image segment address) (all_segments image)
    → Agree (IsSectionAt image address)

-- Which is the dylinker, the encrypted range, .. of an image, and which command has the versions of a platform? The
-- first, or the last.

abbrev pub HasOneCommandOfKind : List ℕ → Type 0
HasOneCommandOfKind image =
    (cmd : ℕ) → is_single cmd ≡ true
    → Agree (IsEndWith (commands_of image) (λ command. command_cmd image command ≡ cmd))

abbrev pub HasOnePlatform : List ℕ → Type 0
HasOnePlatform image =
    (platform : ℕ)
    → Agree (IsEndWith (commands_of image) (λ command. platform_of image command ≡ Some platform))

-- Which number has a segment that can be written? How many segments are before it (the verifier), or how many mapped
-- ones (dyld, before chained fixups).

abbrev pub earlier_mapped : List ℕ → ℕ → List ℕ
earlier_mapped image segment = filter (λ earlier. nat_lt 0 (vmsize image earlier)) (earlier_segments image segment)

abbrev pub IsNumberOfSegment : List ℕ → ℕ → ℕ → Type 0
IsNumberOfSegment image segment answer =
    (answer ≡ segment_number image segment) ⊎ (answer ≡ length (earlier_mapped image segment))

abbrev pub HasOneNumberOfSegment : List ℕ → Type 0
HasOneNumberOfSegment image =
    (segment : ℕ) → Contains (all_segments image) segment → is_writable image segment ≡ true
    → Agree (IsNumberOfSegment image segment)

-- Which segment has a number by which fixups name it? The one with so many before it (the verifier), the mapped one with
-- so many mapped ones before it (dyld, before chained fixups), or the one that begins a run of sections, with so many
-- runs before it, where a __PAGEZERO is one more (LLVM).

abbrev pub IsSegmentByAll : List ℕ → ℕ → ℕ → Type 0
IsSegmentByAll image number answer = Contains (all_segments image) answer × (number ≡ segment_number image answer)

abbrev pub IsSegmentByMapped : List ℕ → ℕ → ℕ → Type 0
IsSegmentByMapped image number answer =
    Contains (all_segments image) answer × (0 < vmsize image answer)
    × (number ≡ length (earlier_mapped image answer))

-- it has sections, and a name other than the one before: before the first it is the empty one
abbrev pub begins_run : List ℕ → ℕ → Bool
begins_run image segment =
    nat_lt 0 (nsects image segment)
    && (nat_lt 0 (length (segment_name image segment)) || nat_lt 0 (earlier_runs image segment))

abbrev pub runs_before : List ℕ → ℕ → ℕ
runs_before image segment = length (filter (begins_run image) (earlier_segments image segment))

abbrev pub IsSegmentBySections : List ℕ → ℕ → ℕ → Type 0
IsSegmentBySections image number answer =
    Contains (all_segments image) answer × (begins_run image answer ≡ true)
    × ((HasPageZero image × (number ≡ runs_before image answer + 1))
    ⊎ ((¬ HasPageZero image) × (number ≡ runs_before image answer)))

abbrev pub IsSegmentOfNumber : List ℕ → ℕ → ℕ → Type 0
IsSegmentOfNumber image number answer =
    IsSegmentByAll image number answer
    ⊎ (IsSegmentByMapped image number answer ⊎ IsSegmentBySections image number answer)

-- where the verifier's segment can be written, as a fixup asks
abbrev pub HasOneSegmentOfNumber : List ℕ → Type 0
HasOneSegmentOfNumber image =
    (number segment : ℕ) → FixupsName image number → IsSegmentByAll image number segment
    → is_writable image segment ≡ true → Agree (IsSegmentOfNumber image number)

-- Where does a segment begin that fixups name? At its vmaddr (the verifier, dyld), or with its first section (LLVM).

abbrev pub IsStartOfSegment : List ℕ → ℕ → ℕ → Type 0
IsStartOfSegment image segment answer =
    (answer ≡ vmaddr image segment)
    ⊎ (answer ≡ section_address image (segment + loader.SEGMENT_COMMAND_64_SIZE))

abbrev pub HasOneStartOfSegment : List ℕ → Type 0
HasOneStartOfSegment image =
    (segment : ℕ) → Contains (all_segments image) segment → FixupsName image (segment_number image segment)
    → Agree (IsStartOfSegment image segment)

-- Which ordinal has a library that is loaded at once? One more than there are libraries before it (the verifier, LLVM),
-- or libraries that are not loaded late (dyld).

abbrev pub earlier_libraries : List ℕ → ℕ → List ℕ
earlier_libraries image command =
    filter (λ earlier. nat_lt earlier command && loads_library (command_cmd image earlier)) (commands_of image)

abbrev pub IsOrdinalOf : List ℕ → ℕ → ℕ → Type 0
IsOrdinalOf image command answer =
    (answer ≡ length (earlier_libraries image command) + 1)
    ⊎ (answer ≡ length (filter (λ earlier. not (command_cmd image earlier == loader.LC_LAZY_LOAD_DYLIB))
    (earlier_libraries image command)) + 1)

abbrev pub HasOneOrdinal : List ℕ → Type 0
HasOneOrdinal image =
    (command : ℕ) → Contains (commands_of image) command → IsEager (command_cmd image command)
    → Agree (IsOrdinalOf image command)

-- Where does the program begin? By the first of LC_MAIN and the threads, or by the last.

abbrev pub IsEntryCommand : List ℕ → ℕ → Type 0
IsEntryCommand image = IsEndWith (commands_of image) (λ command. is_entry (command_cmd image command) ≡ true)

-- Which byte of the file is there, by an LC_MAIN? The one that a segment has so far past the base (the verifier), or the
-- one that is so far in the file.
abbrev pub IsEntryPlace : List ℕ → ℕ → ℕ → Type 0
IsEntryPlace image main answer =
    IsSomeAnd (base_of image (commands_of image)) (λ base.
    IsFilePlace image (base + entryoff image main) answer)
    ⊎ (answer ≡ entryoff image main)

pub record HasOneEntry (image : List ℕ) : Type 0 where
  pub one : Agree (IsEntryCommand image)
  -- readers that look for an entry in programs alone find it too
  pub program : (command : ℕ) → IsEntryCommand image command → IsKind image kind.Execute
  pub place : (main : ℕ) → IsEntryCommand image main → command_cmd image main ≡ loader.LC_MAIN
      → Agree (IsEntryPlace image main)
  -- readers that show data in code as data show none there
  pub code : (command address : ℕ) → IsEntryCommand image command → SaysEntry image command address
      → ¬ IsDataAt image (data_entries image) address
