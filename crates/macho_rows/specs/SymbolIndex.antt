-- Symbols by address: an index of the symbols with an address, and the nearest one. (mach-o/nlist.h: nlist_64)
use Rattle.std.specs.Prelude.{◌≡◌, ℕ, ◌+◌, ◌-◌, ◌*◌, ◌^◌, ◌==◌, ◌≤◌, ◌<◌, ◌⊎◌, ◌&&◌, List, length, map, take, drop, filter, slice_get, slice_index, bit_and, nat_le, Bool, true, false, Option, Some, MatchOption, IsPermutation}
use Rattle.std.specs.List.{range_with_len}
use Rattle.std.specs.List.Sorted.{IsNonDecreasingBy}
use Rattle.std.specs.Option.{option_map_or}
use Rattle.macho_fields.specs.Image.{commands_of}
use Rattle.macho_fields.specs.declared.header.nlist.TheConstants as nlist
use Rattle.macho_image.specs.Symbol.{symbols_of, symbol_at, items_inside}
use Rattle.macho_image.specs.declared.symbol.Symbol.{Symbol}
use Rattle.macho_rows.specs.declared.image.KesvuotImage.{KesvuotImage}
use Rattle.macho_rows.specs.declared.symbols.KesvuotSymbol.{KesvuotSymbol}

-- The symbols that an index can name, by the numbers of the struct and by the image alone: the first
-- 2^32. nsyms has 32 bits, so no image has more.
abbrev pub symbols_shown : List ℕ → KesvuotImage → List Symbol
symbols_shown image row =
    take (2 ^ 32) (map (symbol_at image)
    (items_inside image row.symbols nlist.NLIST_64_SIZE row.symbol_count))

abbrev pub symbols_seen : List ℕ → List Symbol
symbols_seen image = take (2 ^ 32) (map (symbol_at image) (symbols_of image (commands_of image)))

-- Whether the value of a symbol of this n_type is an address: the symbol is defined in a section (N_TYPE,
-- N_SECT), and it is not a debugging entry (N_STAB).
abbrev pub is_address : ℕ → Bool
is_address kind =
    (bit_and kind nlist.N_STAB == 0) && (bit_and kind nlist.N_TYPE == nlist.N_SECT)

-- the symbol with this index has an address
abbrev pub has_address : List Symbol → ℕ → Bool
has_address symbols number =
    option_map_or (λ (s : Symbol). is_address s.kind) (slice_get symbols number) false

-- the indices of the symbols that have one, in the order of the table
abbrev pub addresses : List Symbol → List ℕ
addresses symbols = filter (has_address symbols) (range_with_len 0 (length symbols))

abbrev pub value_of : List Symbol → ℕ → ℕ
value_of symbols number =
    option_map_or (λ (s : Symbol). s.value) (slice_get symbols number) 0

-- by which an index ascends: by the value of the symbol, and of one value by the index, which has 32
-- bits
abbrev pub sort_key : List Symbol → ℕ → ℕ
sort_key symbols number = value_of symbols number * 2 ^ 32 + number

-- The index of the symbols: it has the indices of the symbols with an address, each once, and ascends.
abbrev pub IsIndex : List Symbol → List ℕ → Type 0
IsIndex symbols index =
    IsPermutation (addresses symbols) index × IsNonDecreasingBy (sort_key symbols) index

-- So many of the symbols have an address. If there was room for them, the index is at the start of what
-- was `old` and is `new`, and the rest is as it was. Otherwise all is.
pub record IsIndexed (symbols : List Symbol) (count : ℕ) (old new : List ℕ) : Type 0 where
  pub counted : count ≡ length (addresses symbols)
  pub index : count ≤ length old → IsIndex symbols (take count new)
  pub rest : drop count new ≡ drop count old
  pub unwritten : length old < count → new ≡ old

-- whether there is a symbol with this index, and it begins at or before the address
abbrev pub is_at_or_before : List Symbol → ℕ → ℕ → Bool
is_at_or_before symbols address number =
    option_map_or (λ (s : Symbol). nat_le s.value address) (slice_get symbols number) false

-- The entry at the position, if there is one, is the index of no symbol, or of one past the address.
abbrev pub BeginsPast : List Symbol → List ℕ → ℕ → ℕ → Type 0
BeginsPast symbols index address position =
    position < length index
    → is_at_or_before symbols address (slice_index index position) ≡ false

-- The entry at the position is the index of this symbol, which begins at or before the address, and the
-- next one does not.
pub record IsLastSymbol (symbols : List Symbol) (index : List ℕ) (address position : ℕ) (symbol : Symbol)
    : Type 0 where
  pub within : position < length index
  pub is : slice_get symbols (slice_index index position) ≡ Some symbol
  pub reaches : symbol.value ≤ address
  pub next : BeginsPast symbols index address (position + 1)

abbrev pub no_symbol : KesvuotSymbol
no_symbol = record {
  value = 0;
  strx = 0;
  section = 2 ^ 32 - 1;
  desc = 0;
  kind = 0;
  sect = 0;
  reserved = 0;
}

-- What is found by any numbers in the index: a position at which IsLastSymbol holds, and the symbol, or nothing
-- if the first entry begins past the address.
abbrev pub FindsLast : List Symbol → List ℕ → ℕ → Option (ℕ × Symbol) → Type 0
FindsLast symbols index address found =
    MatchOption found (BeginsPast symbols index address 0)
    (λ last. IsLastSymbol symbols index address last.0 last.1)

-- The symbol with this index is the nearest one: it has an address, at or before this one, and no other at
-- or before it has a greater address, or the same and a greater index.
pub record IsNearest (symbols : List Symbol) (address number : ℕ) (symbol : Symbol) : Type 0 where
  pub is : slice_get symbols number ≡ Some symbol
  pub has : is_address symbol.kind ≡ true
  pub reaches : symbol.value ≤ address
  pub nearest : (k : ℕ) (other : Symbol) → slice_get symbols k ≡ Some other
      → is_address other.kind ≡ true → other.value ≤ address
      → (other.value < symbol.value) ⊎ ((other.value ≡ symbol.value) × (k ≤ number))

-- no symbol has an address at or before this one
abbrev pub HasNoneBefore : List Symbol → ℕ → Type 0
HasNoneBefore symbols address =
    (k : ℕ) (other : Symbol) → slice_get symbols k ≡ Some other → is_address other.kind ≡ true
    → address < other.value

-- Where the index is made of the symbols of the image, the nearest one of all is found.
abbrev pub FindsNearest : List ℕ → List ℕ → ℕ → Option (ℕ × Symbol) → Type 0
FindsNearest image index address found =
    IsIndex (symbols_seen image) index
    → MatchOption found (HasNoneBefore (symbols_seen image) address)
    (λ last. IsNearest (symbols_seen image) address (slice_index index last.0) last.1)
