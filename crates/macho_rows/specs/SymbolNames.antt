-- Symbols by name. (mach-o/nlist.h: nlist_64)
use Rattle.std.specs.Prelude.{◌≡◌, ◌≢◌, ℕ, ◌+◌, ◌<◌, List, map, drop, slice_get, bit_and, Option, Some, MatchOption}
use Rattle.macho_fields.specs.Field.{string_from}
use Rattle.macho_fields.specs.Image.{commands_of}
use Rattle.macho_fields.specs.declared.header.nlist.TheConstants as nlist
use Rattle.macho_image.specs.Symbol.{symbols_of, symbol_at, items_inside}
use Rattle.macho_image.specs.declared.symbol.Symbol.{Symbol}
use Rattle.macho_image.specs.declared.symtab.Symtab.{Symtab}
use Rattle.macho_rows.specs.Image.{symtab_in, field_of}
use Rattle.macho_rows.specs.Rows.{first_string}
use Rattle.macho_rows.specs.Symbols.{name_at}
use Rattle.macho_rows.specs.declared.image.KesvuotImage.{KesvuotImage}

-- the symbol is not a debugging entry (N_STAB), and has this name
abbrev pub HasName : List ℕ → KesvuotImage → List ℕ → Symbol → Type 0
HasName image row name symbol =
    (bit_and symbol.kind nlist.N_STAB ≡ 0) × (name_at image row symbol.strx ≡ Some name)

-- the same by the image alone: the name is the bytes from strx on in the strings of LC_SYMTAB, up to the
-- first zero byte
abbrev pub HasNameIn : List ℕ → List ℕ → Symbol → Type 0
HasNameIn image name symbol =
    let stroff = field_of (λ (t : Symtab). t.stroff) (symtab_in image) in
    (bit_and symbol.kind nlist.N_STAB ≡ 0) × (symbol.strx ≢ 0)
    × (string_from (stroff + symbol.strx) image ≡ name)

-- P holds of none of the symbols with an index below this one
abbrev pub NoneBelow : (Symbol → Type 0) → List Symbol → ℕ → Type 0
NoneBelow P symbols number =
    (k : ℕ) (other : Symbol) → k < number → slice_get symbols k ≡ Some other → ¬ P other

-- the symbol is the first with P, and has this index
abbrev pub IsFirst : (Symbol → Type 0) → List Symbol → ℕ → Symbol → Type 0
IsFirst P symbols number symbol =
    (slice_get symbols number ≡ Some symbol) × P symbol × NoneBelow P symbols number

-- P holds of none of them
abbrev pub HasNone : (Symbol → Type 0) → List Symbol → Type 0
HasNone P symbols = (k : ℕ) (other : Symbol) → slice_get symbols k ≡ Some other → ¬ P other

-- the index of the first of these symbols of which P holds, and the symbol, or nothing
abbrev pub FindsFirst : (Symbol → Type 0) → List Symbol → Option (ℕ × Symbol) → Type 0
FindsFirst P symbols found =
    MatchOption found (HasNone P symbols) (λ first. IsFirst P symbols first.0 first.1)

-- the first symbol with a name, by the numbers of the struct
abbrev pub IsNamed : List ℕ → KesvuotImage → List ℕ → Option (ℕ × Symbol) → Type 0
IsNamed image row name =
    FindsFirst (HasName image row name)
    (map (symbol_at image) (items_inside image row.symbols nlist.NLIST_64_SIZE row.symbol_count))

-- the same by the image alone: among all its symbols
abbrev pub FindsNamed : List ℕ → List ℕ → Option (ℕ × Symbol) → Type 0
FindsNamed image name =
    FindsFirst (HasNameIn image name) (map (symbol_at image) (symbols_of image (commands_of image)))

-- What only proofs need.

-- the symbol has this name in these strings
abbrev pub HasNameAmong : List ℕ → List ℕ → Symbol → Type 0
HasNameAmong strings name symbol =
    (bit_and symbol.kind nlist.N_STAB ≡ 0) × (symbol.strx ≢ 0)
    × (first_string (drop symbol.strx strings) ≡ Some name)
