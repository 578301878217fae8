-- What the rules of the entries and slices of a universal file are about. (mach-o/fat.h: fat_header, fat_arch, fat_arch_64)
use Rattle.std.specs.Prelude.{◌≡◌, ℕ, ◌+◌, ◌≤◌, ◌<◌, List, length}
use Rattle.macho_fields.specs.Rules.{AtEntry}
use Rattle.macho_fields.specs.Universal.{IsUniversal, FileSlice, IsForeign, SharePlace, entry_count, entry_slice, slice_bytes, table_end}

-- the file is universal, and has its whole table
pub record HasTable (file : List ℕ) : Type 0 where
  pub universal : IsUniversal file
  pub header : 8 ≤ length file
  pub whole : table_end file ≤ length file

-- an entry of the table begins at the place, and has P
abbrev pub HasEntryWith : (List ℕ → ℕ → Type 0) → List ℕ → ℕ → Type 0
HasEntryWith P file place = HasTable file × AtEntry file (P file) place

-- any entry
abbrev pub HasEntry : List ℕ → ℕ → Type 0
HasEntry = HasEntryWith (λ file k. Unit {0})

-- the slice lies in the file, and begins with the magic number of no image
abbrev pub IsForeignSlice : List ℕ → FileSlice → Type 0
IsForeignSlice file slice =
    (slice.start + slice.size ≤ length file) × IsForeign (slice_bytes file slice)

-- the slice of an entry begins at the place, with the magic number of no image
abbrev pub IsForeignAt : List ℕ → ℕ → ℕ → Type 0
IsForeignAt file k place =
    ((entry_slice file k).start ≡ place) × IsForeignSlice file (entry_slice file k)

-- a slice begins at the place, with the magic number of no image
abbrev pub HasForeign : List ℕ → ℕ → Type 0
HasForeign file place =
    HasTable file × ((k : ℕ) × (k < entry_count file) × IsForeignAt file k place)

-- What only proofs need.

-- no entry before one has R with the entry with the index
abbrev pub NoneBefore : (ℕ → ℕ → Type 0) → ℕ → ℕ → Type 0
NoneBefore R index last = (k : ℕ) → k < last → ¬ R k index

-- their slices share a place of the file
abbrev pub ShareEntries : List ℕ → ℕ → ℕ → Type 0
ShareEntries file j k = SharePlace (entry_slice file j) (entry_slice file k)

-- they have one architecture
abbrev pub HaveSameArch : List ℕ → ℕ → ℕ → Type 0
HaveSameArch file j k = (entry_slice file j).arch ≡ (entry_slice file k).arch
