-- The numbers of the data of LC_FUNCTION_STARTS, and where they break their rules. A place is an offset in the
-- data. (mach-o/loader.h: LC_FUNCTION_STARTS)
use Rattle.std.specs.Prelude.{◌≡◌, ℕ, ◌+◌, ◌≤◌, ◌<◌, ◌⊎◌, List, [], ◌∷◌, length, sum, Any, Some, None, IsSomeAnd}
use Rattle.macho_fields.specs.Image.{commands_of}
use Rattle.macho_fields.specs.NonZero.{IsNonZero}
use Rattle.macho_fields.specs.Segment.{all_segments, base_of, vmaddr, filesize, Supplies}
use Rattle.macho_fields.specs.declared.header.loader.TheConstants as loader
use Rattle.macho_tables.specs.DataTables.{InDataTable}
use Rattle.macho_tables.specs.Numbers.{unsigned_at}

-- Numbers other than 0, from a place on: each begins where the one before it ends, and the last one ends at
-- next, which is start without a number.
abbrev pub AreNumbersFrom : List ℕ → ℕ → List ℕ → ℕ → Type 0
AreNumbersFrom table start [] next = start ≡ next
AreNumbersFrom table start (first ∷ numbers) next =
    (after : ℕ) × (unsigned_at table start ≡ Some (first, after)) × (0 < first)
    × AreNumbersFrom table after numbers next

-- these are all numbers before a place, and the first is at the start
abbrev pub AreNumbers : List ℕ → List ℕ → ℕ → Type 0
AreNumbers table numbers place = AreNumbersFrom table 0 numbers place

-- the numbers come up to the place, where another one should be, and no number of 64 bits is there
abbrev pub IsNoNumber : List ℕ → ℕ → Type 0
IsNoNumber table place =
    ((numbers : List ℕ) × AreNumbers table numbers place) × (place < length table)
    × (unsigned_at table place ≡ None)

-- a number 0 ends the numbers, and the place past it has a byte that is not 0
abbrev pub IsPastLast : List ℕ → ℕ → Type 0
IsPastLast table place =
    (numbers : List ℕ) × (last : ℕ) × (after : ℕ) × AreNumbers table numbers last
    × (unsigned_at table last ≡ Some (0, after)) × (after ≤ place) × IsNonZero table place

-- A function has the address. Its number, at the place, says how far it is past the one before it, and the
-- first one how far past the base.
abbrev pub IsStartAt : List ℕ → ℕ → ℕ → ℕ → Type 0
IsStartAt table base place address =
    (numbers : List ℕ) × (number : ℕ) × (after : ℕ) × AreNumbers table numbers place
    × (unsigned_at table place ≡ Some (number, after)) × (0 < number)
    × (address ≡ base + sum numbers + number)

-- the segment is mapped, and has a byte of the file at the address
abbrev pub HasByteAt : List ℕ → ℕ → ℕ → Type 0
HasByteAt image address segment =
    Supplies image segment address × (address < vmaddr image segment + filesize image segment)

-- some segment has
abbrev pub IsFileAddress : List ℕ → ℕ → Type 0
IsFileAddress image address = Any (HasByteAt image address) (all_segments image)

-- a function is not at the address of a byte of the file, in an image with this base
abbrev pub IsStrayStart : List ℕ → ℕ → List ℕ → ℕ → Type 0
IsStrayStart image base table place =
    (address : ℕ) × IsStartAt table base place address × ¬ IsFileAddress image address

-- The rules of an image and the bytes of its table

abbrev pub BadNumber : List ℕ → List ℕ → ℕ → Type 0
BadNumber image table place = IsNoNumber table place ⊎ IsPastLast table place

abbrev pub StrayStart : List ℕ → List ℕ → ℕ → Type 0
StrayStart image table place =
    IsSomeAnd (base_of image (commands_of image)) (λ base. IsStrayStart image base table place)

-- the rules function-number and function-start
abbrev pub BreaksFunctionNumber : List ℕ → ℕ → Type 0
BreaksFunctionNumber image place = InDataTable image loader.LC_FUNCTION_STARTS BadNumber place

abbrev pub BreaksFunctionStart : List ℕ → ℕ → Type 0
BreaksFunctionStart image place = InDataTable image loader.LC_FUNCTION_STARTS StrayStart place
