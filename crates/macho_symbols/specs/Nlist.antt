-- What the type and the description of a symbol say of it. (mach-o/nlist.h: nlist_64)
use Rattle.std.specs.Prelude.{◌≡◌, ◌≢◌, ℕ, ◌/◌, ◌^◌, ◌<◌, ◌⊎◌, bit_and}
use Rattle.macho_fields.specs.declared.header.nlist.TheConstants.{N_STAB, N_TYPE}
use Rattle.macho_image.specs.declared.symbol.Symbol.{Symbol}
use Rattle.macho_fields.specs.declared.header.nlist.TheConstants as nlist

-- n_type: the symbol is not a debugging entry (N_STAB), and has the type (N_TYPE)
abbrev pub HasType : ℕ → Symbol → Type 0
HasType wanted symbol = (bit_and symbol.kind N_STAB ≡ 0) × (bit_and symbol.kind N_TYPE ≡ wanted)

-- another image defines it. One of type N_UNDF with a value is a common symbol.
abbrev pub IsImported : Symbol → Type 0
IsImported symbol =
    (HasType nlist.N_UNDF symbol × (symbol.value ≡ 0)) ⊎ HasType nlist.N_PBUD symbol

-- n_desc: its upper 8 bits (GET_LIBRARY_ORDINAL)
abbrev pub library_ordinal : Symbol → ℕ
library_ordinal symbol = symbol.desc / 2 ^ 8

-- another image defines it, and its ordinal is neither the image's own, 0, nor of one of so many
-- libraries, nor a special one
abbrev pub NamesNoLibrary : ℕ → Symbol → Type 0
NamesNoLibrary libraries symbol =
    IsImported symbol × (libraries < library_ordinal symbol)
    × (library_ordinal symbol ≢ nlist.DYNAMIC_LOOKUP_ORDINAL)
    × (library_ordinal symbol ≢ nlist.EXECUTABLE_ORDINAL)
