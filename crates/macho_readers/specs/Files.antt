-- Where an entry of a universal file breaks a rule, so that two readers run another slice, or see another kind of file.
-- (mach-o/fat.h: fat_header, fat_arch, fat_arch_64; mach-o/loader.h: mach_header, mach_header_64; mach/machine.h)
use Rattle.std.specs.Prelude.{◌≡◌, ◌≢◌, ℕ, ◌+◌, ◌-◌, ◌%◌, ◌≤◌, ◌<◌, ◌==◌, ◌||◌, ◌⊎◌, nat_lt, List, length, Some, Bool, true, false, bit_and, if◌then◌else◌}
use Rattle.std.specs.Option.{option_map_or}
use Rattle.macho_fields.specs.Field.{number, field}
use Rattle.macho_fields.specs.Rules.{AtEntry}
use Rattle.macho_fields.specs.Universal.{IsUniversal, IsImage, entry_count, entry_place, entry_slice, slice_bytes}
use Rattle.macho_fields.specs.declared.bytes.Order.{Order}
use Rattle.macho_fields.specs.declared.bytes.Order.TheVariants.{Big, Little}
use Rattle.macho_fields.specs.declared.header.fat.TheConstants as fat
use Rattle.macho_fields.specs.declared.header.fat.fat_header.TheConstants.{NFAT_ARCH}
use Rattle.macho_fields.specs.declared.header.loader.TheConstants as loader
use Rattle.macho_fields.specs.declared.header.machine.TheConstants as machine
use Rattle.macho_spans.specs.Overlap.{span_at}
use Rattle.macho_spans.specs.declared.span.Span.{Span}
use Rattle.macho_readers.specs.Pages.{page_size, page_end}
use Rattle.macho_readers.specs.declared.files.TheConstants as files

-- the slice of entry k: its bytes
abbrev pub entry_bytes : List ℕ → ℕ → List ℕ
entry_bytes file k = slice_bytes file (entry_slice file k)

-- fat_arch, fat_arch_64: cputype at 0, and the whole cpusubtype at 4
abbrev pub entry_cputype : List ℕ → ℕ → ℕ
entry_cputype file k = number Big 4 file (entry_place file k)

abbrev pub entry_cpusubtype : List ℕ → ℕ → ℕ
entry_cpusubtype file k = number Big 4 file (entry_place file k + 4)

-- fat_header: magic at 0, nfat_arch at 4. There are so many entries that a reader takes their number for the version of a
-- Java class, which begins with the same magic number as a table of fat_arch.
abbrev pub LooksLikeClass : List ℕ → Type 0
LooksLikeClass file =
    (fat.FAT_HEADER_SIZE ≤ length file) × (number Big 4 file 0 ≡ fat.FAT_MAGIC)
    × (files.LEAST_CLASS_COUNT ≤ entry_count file)

-- the rule fat-count, at nfat_arch
abbrev pub BreaksFatCount : List ℕ → ℕ → Type 0
BreaksFatCount file place = (place ≡ NFAT_ARCH) × LooksLikeClass file

-- mach_header.magic, mach_header_64.magic: bytes begin with a magic number in this order
abbrev pub has_magic : Order → ℕ → List ℕ → Bool
has_magic order wanted bytes = option_map_or (λ magic. magic == wanted) (field order 4 bytes 0) false

-- the header has 64 bits
abbrev pub is_wide : List ℕ → Bool
is_wide bytes = has_magic Little loader.MH_MAGIC_64 bytes || has_magic Big loader.MH_MAGIC_64 bytes

-- the order of the fields of the header
abbrev pub header_order : List ℕ → Order
header_order bytes =
    if has_magic Big loader.MH_MAGIC bytes || has_magic Big loader.MH_MAGIC_64 bytes then Big else Little

-- Of the bytes of a slice, and what its entry says of them

-- mach_header.cputype at 4: the header has another cputype than the entry, or none
abbrev pub HasOtherType : List ℕ → ℕ → Type 0
HasOtherType bytes cputype = field (header_order bytes) 4 bytes 4 ≢ Some cputype

-- the cputype is one of a processor of 64 bits (mach/machine.h: CPU_ARCH_ABI64)
abbrev pub is_of_64_bits : ℕ → Bool
is_of_64_bits cputype = nat_lt 0 (bit_and cputype machine.CPU_ARCH_ABI64)

-- it is, and the header has 32 bits, or the reverse
abbrev pub HasOtherWidth : List ℕ → ℕ → Type 0
HasOtherWidth bytes cputype = is_wide bytes ≢ is_of_64_bits cputype

-- mach_header_64.cpusubtype at 8: the slice is read, and its whole cpusubtype is another one, or it has none
abbrev pub HasOtherSubtype : List ℕ → ℕ → Type 0
HasOtherSubtype bytes cpusubtype = IsImage bytes × (field Little 4 bytes 8 ≢ Some cpusubtype)

-- the processors whose slices are judged
abbrev pub is_judged : ℕ → Bool
is_judged cputype = (cputype == machine.CPU_TYPE_X86_64) || (cputype == machine.CPU_TYPE_ARM64)

-- the slice is for a processor that is judged, and is not read
abbrev pub IsUnjudged : List ℕ → ℕ → Type 0
IsUnjudged bytes cputype = (is_judged cputype ≡ true) × ¬ IsImage bytes

-- the entry says of the processor something that the slice does not
abbrev pub HasOtherProcessor : List ℕ → ℕ → Type 0
HasOtherProcessor bytes cputype = HasOtherType bytes cputype ⊎ HasOtherWidth bytes cputype

abbrev pub IsOtherwiseRead : List ℕ → ℕ → ℕ → Type 0
IsOtherwiseRead bytes cputype cpusubtype = HasOtherSubtype bytes cpusubtype ⊎ IsUnjudged bytes cputype

unfoldable pub HasOtherHeader : List ℕ → ℕ → ℕ → Type 0
HasOtherHeader bytes cputype cpusubtype =
    HasOtherProcessor bytes cputype ⊎ IsOtherwiseRead bytes cputype cpusubtype

-- entry k says something else than its slice
abbrev pub IsOtherEntry : List ℕ → ℕ → Type 0
IsOtherEntry file k =
    HasOtherHeader (entry_bytes file k) (entry_cputype file k) (entry_cpusubtype file k)

-- the rule fat-header, at the place of an entry
abbrev pub BreaksFatHeader : List ℕ → ℕ → Type 0
BreaksFatHeader file place = IsUniversal file × AtEntry file (IsOtherEntry file) place

-- the first place past the last page that has a byte of the slice of entry k
abbrev pub pages_end : List ℕ → ℕ → ℕ
pages_end file k =
    let slice = entry_slice file k in
    page_end (page_size (entry_cputype file k)) (slice.start + slice.size - 1)

-- one of some spans begins past the start, and before the end
abbrev pub BeginsWithin : List Span → ℕ → ℕ → Type 0
BeginsWithin spans start end =
    (i : ℕ) × (i < length spans) × (start < (span_at spans i).start) × ((span_at spans i).start < end)

-- no page begins where the slice does
abbrev pub BeginsOffPage : List ℕ → ℕ → Type 0
BeginsOffPage file k = (entry_slice file k).start % page_size (entry_cputype file k) ≢ 0

-- another slice begins in the pages of the slice
abbrev pub SharesPage : List ℕ → ℕ → Type 0
SharesPage file k =
    (j : ℕ) × (j < entry_count file) × ((entry_slice file k).start < (entry_slice file j).start)
    × ((entry_slice file j).start < pages_end file k)

abbrev pub IsOffPages : List ℕ → ℕ → Type 0
IsOffPages file k = IsImage (entry_bytes file k) × (BeginsOffPage file k ⊎ SharesPage file k)

-- the rule fat-page, at the place of an entry
abbrev pub BreaksFatPage : List ℕ → ℕ → Type 0
BreaksFatPage file place = IsUniversal file × AtEntry file (IsOffPages file) place
