-- Which slices are there for a processor, to a reader that also looks just past the table? (mach-o/fat.h: fat_header,
-- fat_arch, fat_arch_64; mach/machine.h: CPU_TYPE_ARM64)
use Rattle.std.specs.Prelude.{◌≡◌, ℕ, ◌+◌, ◌≤◌, ◌<◌, ◌⊎◌, ◌↔◌, List, length}
use Rattle.macho_fields.specs.Universal.{IsUniversal, entry_count, entry_place}
use Rattle.macho_fields.specs.declared.header.machine.TheConstants as machine
use Rattle.macho_readers.specs.Files.{entry_cputype}

-- an entry that nfat_arch does not count, and that lipo takes too: the one just past the table, where it has the cputype
-- of arm64
abbrev pub IsHiddenEntry : List ℕ → ℕ → Type 0
IsHiddenEntry file k =
    (k ≡ entry_count file) × (entry_place file k + 4 ≤ length file)
    × (entry_cputype file k ≡ machine.CPU_TYPE_ARM64)

abbrev pub IsCountedSlice : List ℕ → ℕ → ℕ → Type 0
IsCountedSlice file cputype k = (k < entry_count file) × (entry_cputype file k ≡ cputype)

abbrev pub IsSliceOfLipo : List ℕ → ℕ → ℕ → Type 0
IsSliceOfLipo file cputype k =
    IsCountedSlice file cputype k ⊎ (IsHiddenEntry file k × (entry_cputype file k ≡ cputype))

-- lipo takes the slices that other readers take
abbrev pub HasNoHiddenSlice : List ℕ → Type 0
HasNoHiddenSlice file =
    IsUniversal file → (cputype k : ℕ) → IsSliceOfLipo file cputype k ↔ IsCountedSlice file cputype k
