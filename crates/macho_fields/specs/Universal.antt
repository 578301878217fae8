-- A universal file, and the slices of any file. The fields of a universal header are big-endian.
-- (mach-o/fat.h: fat_header, fat_arch, fat_arch_64)
use Rattle.std.specs.Prelude.{◌≡◌, ℕ, ◌+◌, ◌*◌, ◌%◌, ◌^◌, ◌≤◌, ◌<◌, ◌⊎◌, ◌==◌, ◌||◌, List, [], ◌∷◌, map, length, slice_get, Option, Some, None, IsSomeAnd, All, Bool, IsTrue, if◌then◌else◌}
use Rattle.std.specs.List.{range_with_len}
use Rattle.macho_fields.specs.Field.{number, part}
use Rattle.macho_spans.specs.Span.{Covers}
use Rattle.macho_fields.specs.declared.bytes.Order.TheVariants.{Big, Little}
use Rattle.macho_fields.specs.declared.header.fat.TheConstants as fat
use Rattle.macho_fields.specs.declared.header.loader.TheConstants as loader

-- fat_header.magic at 0: FAT_MAGIC where the entries are fat_arch, FAT_MAGIC_64 where they are
-- fat_arch_64
abbrev pub has_wide_entries : List ℕ → Bool
has_wide_entries file = number Big 4 file 0 == fat.FAT_MAGIC_64

abbrev pub is_universal : List ℕ → Bool
is_universal file = number Big 4 file 0 == fat.FAT_MAGIC || has_wide_entries file

-- the file begins with one of the two
abbrev pub IsUniversal : List ℕ → Type 0
IsUniversal file = (4 ≤ length file) × IsTrue (is_universal file)

-- fat_header.nfat_arch at 4: how many entries the table has
abbrev pub entry_count : List ℕ → ℕ
entry_count file = number Big 4 file 4

-- the size of fat_arch_64 or fat_arch
abbrev pub entry_size : List ℕ → ℕ
entry_size file = if has_wide_entries file then fat.FAT_ARCH_64_SIZE else fat.FAT_ARCH_SIZE

-- the place of entry k of the table, which follows fat_header
abbrev pub entry_place : List ℕ → ℕ → ℕ
entry_place file k = fat.FAT_HEADER_SIZE + k * entry_size file

-- the first place past the table
abbrev pub table_end : List ℕ → ℕ
table_end file = entry_place file (entry_count file)

-- fat_arch.align at 16, fat_arch_64.align at 24: the exponent of the power of two that must divide
-- the offset
abbrev pub entry_align : List ℕ → ℕ → ℕ
entry_align file k =
    number Big 4 file (entry_place file k + (if has_wide_entries file then 24 else 16))

-- a cpusubtype without its capability byte (mach/machine.h: CPU_SUBTYPE_MASK)
abbrev pub masked : ℕ → ℕ
masked subtype = subtype % 2 ^ 24

-- A slice: its first place, its size, and for an entry of a universal file the pair of its
-- cputype and masked cpusubtype.
pub record FileSlice : Type 0 where
  pub start : ℕ
  pub size : ℕ
  pub arch : Option (ℕ × ℕ)

-- entry k: cputype at 0, cpusubtype 4, offset 8, then size: offset and size have 4 bytes in
-- fat_arch, and 8 in fat_arch_64
abbrev pub entry_slice : List ℕ → ℕ → FileSlice
entry_slice file k =
    let place = entry_place file k in
    let wide = has_wide_entries file in record {
      start = if wide then number Big 8 file (place + 8) else number Big 4 file (place + 8);
      size = if wide then number Big 8 file (place + 16) else number Big 4 file (place + 12);
      arch = Some (number Big 4 file place, masked (number Big 4 file (place + 4)));
    }

-- the slices of a file: one for each entry in table order, or the whole of a file with no table
abbrev pub slices_of : List ℕ → List FileSlice
slices_of file =
    if is_universal file
    then map (entry_slice file) (range_with_len 0 (entry_count file))
    else record { start = 0; size = length file; arch = None } ∷ []

-- a place of the file lies in the slice
abbrev pub HasPlace : FileSlice → ℕ → Type 0
HasPlace slice place = Covers slice.start slice.size place

abbrev pub slice_bytes : List ℕ → FileSlice → List ℕ
slice_bytes file slice = part slice.start slice.size file

-- mach_header_64.magic: the bytes begin with the magic of a 64-bit little-endian image, CF FA ED FE.
abbrev pub IsImage : List ℕ → Type 0
IsImage bytes = (4 ≤ length bytes) × (number Little 4 bytes 0 ≡ loader.MH_MAGIC_64)

-- mach_header.magic, mach_header_64.magic: they begin with the magic of an image that is not read, of 32
-- bits in either order, or of 64 bits in big-endian order.
abbrev pub IsUnreadImage : List ℕ → Type 0
IsUnreadImage bytes =
    (4 ≤ length bytes)
    × ((number Little 4 bytes 0 ≡ loader.MH_MAGIC) ⊎ (number Big 4 bytes 0 ≡ loader.MH_MAGIC)
    ⊎ (number Big 4 bytes 0 ≡ loader.MH_MAGIC_64))

-- They begin with neither magic.
abbrev pub IsForeign : List ℕ → Type 0
IsForeign bytes = ¬ (IsImage bytes ⊎ IsUnreadImage bytes)

-- the file has an image in the slice with this index
abbrev pub HasImage : List ℕ → ℕ → Type 0
HasImage file index =
    IsSomeAnd (slice_get (slices_of file) index) (λ slice. IsImage (slice_bytes file slice))

-- each image of the file, that in each 64-bit slice, has P
abbrev pub OfEachImage : (List ℕ → Type 0) → List ℕ → Type 0
OfEachImage P file =
    All (λ slice. IsImage (slice_bytes file slice) → P (slice_bytes file slice)) (slices_of file)

-- What the rules of a file say of an entry of its table

-- the slice of entry k ends past the file
abbrev pub IsSliceOutside : List ℕ → ℕ → Type 0
IsSliceOutside file k = length file < (entry_slice file k).start + (entry_slice file k).size

-- the slice of entry k begins before the table ends
abbrev pub IsSliceInTable : List ℕ → ℕ → Type 0
IsSliceInTable file k = (entry_slice file k).start < table_end file

-- 2 to the power of align divides the offset
abbrev pub IsMultiple : ℕ → ℕ → Type 0
IsMultiple align offset = (m : ℕ) × (m * 2 ^ align ≡ offset)

-- the slice of entry k does not begin at a multiple of its alignment
abbrev pub IsSliceMisaligned : List ℕ → ℕ → Type 0
IsSliceMisaligned file k = ¬ IsMultiple (entry_align file k) (entry_slice file k).start

-- entry j of the table and an earlier one have R
abbrev pub WithEarlier : (ℕ → ℕ → Type 0) → ℕ → Type 0
WithEarlier R j = (i : ℕ) × (i < j) × R i j

-- a place of the file lies in both slices
abbrev pub SharePlace : FileSlice → FileSlice → Type 0
SharePlace a b = (place : ℕ) × HasPlace a place × HasPlace b place

-- the slice of the entry shares a place with the slice of an earlier entry
abbrev pub OverlapsEarlierSlice : List ℕ → ℕ → Type 0
OverlapsEarlierSlice file = WithEarlier (λ i j. SharePlace (entry_slice file i) (entry_slice file j))

-- the entry has the architecture of an earlier one
abbrev pub RepeatsEarlierArch : List ℕ → ℕ → Type 0
RepeatsEarlierArch file = WithEarlier (λ i j. (entry_slice file i).arch ≡ (entry_slice file j).arch)
