-- From which libraries the symbols of an image are, and where its fixups look a name up in another one.
-- (mach-o/nlist.h: nlist_64, GET_LIBRARY_ORDINAL; mach-o/loader.h: MH_TWOLEVEL, BIND_OPCODE_.., LC_DYLD_CHAINED_FIXUPS)
use Rattle.std.specs.Prelude.{◌≡◌, ◌≢◌, ℕ, ◌-◌, ◌<◌, ◌==◌, ◌⊎◌, List, Option, Some, if◌then◌else◌}
use Rattle.macho_fields.specs.Field.{part, string_from}
use Rattle.macho_fields.specs.Image.{commands_of}
use Rattle.macho_fields.specs.Symbol.{AtSymbol}
use Rattle.macho_fields.specs.declared.header.nlist.TheConstants.{DYNAMIC_LOOKUP_ORDINAL, EXECUTABLE_ORDINAL}
use Rattle.macho_image.specs.Symbol.{symbol_at}
use Rattle.macho_image.specs.declared.symbol.Symbol.{Symbol}
use Rattle.macho_chains.specs.ChainImports.{import_of, import_name_start, ImportsEndPast}
use Rattle.macho_chains.specs.Chains.{InPointers}
use Rattle.macho_chains.specs.declared.chain_header.ChainHeader.{ChainHeader}
use Rattle.macho_chains.specs.declared.chain_imports.Ordinal.{Ordinal}
use Rattle.macho_chains.specs.declared.chain_imports.Ordinal.TheVariants as ordinal
use Rattle.macho_symbols.specs.Header.{IsTwoLevel}
use Rattle.macho_symbols.specs.Nlist.{library_ordinal}
use Rattle.macho_alike.specs.Binds.{IsBind}
use Rattle.macho_alike.specs.Definitions.{name_of}
use Rattle.macho_alike.specs.Symbols.{IsUndefined}
use Rattle.macho_alike.specs.declared.binds.Bind.{Bind}
use Rattle.macho_alike.specs.declared.binds.Library.{Library}
use Rattle.macho_alike.specs.declared.binds.Library.TheVariants as library
use Rattle.macho_alike.specs.declared.imports.TheConstants as special

-- What n_desc says

-- it is external and undefined, and it has a name
abbrev pub ImportsName : Symbol → Type 0
ImportsName symbol = IsUndefined symbol.kind × (symbol.strx ≢ 0)

-- The upper 8 bits of n_desc. 0 is the image itself, as in binds. The two greatest are special.
abbrev pub library_of : Symbol → Library
library_of symbol =
    let number = library_ordinal symbol in
    if number == EXECUTABLE_ORDINAL then library.Special special.MAIN_EXECUTABLE
    else (if number == DYNAMIC_LOOKUP_ORDINAL then library.Special special.FLAT_LOOKUP else library.Ordinal number)

-- What fixups say. By BIND_SPECIAL_DYLIB_WEAK_LOOKUP a name is looked up in all images, as in the weak stream: this
-- names no library.

abbrev pub IsFrom : Option Library → Library → Type 0
IsFrom looked_in from = (looked_in ≡ Some from) × (from ≢ library.Special special.WEAK_LOOKUP)

-- a bind looks a name up in a library; the name is without the zero byte that ends it
abbrev pub BindLooksUp : List ℕ → Bind → List ℕ → Library → Type 0
BindLooksUp image bind name from =
    (part bind.name.start (bind.name.len - 1) image ≡ name) × IsFrom bind.library from

abbrev pub IsOpcodeLookUp : List ℕ → List ℕ → Library → Type 0
IsOpcodeLookUp image name from = (bind : Bind) × IsBind image bind × BindLooksUp image bind name from

-- the library of an import, as binds name it
abbrev pub library_by : Ordinal → Library
library_by (ordinal.Library number) = library.Ordinal number
library_by (ordinal.Special below) = library.Special below

-- the import k of a table of chained fixups does, whether or not a pointer binds it
abbrev pub ImportLooksUp : List ℕ → ChainHeader → ℕ → List ℕ → Library → Type 0
ImportLooksUp chains header k name from =
    (string_from (import_name_start chains header k) chains ≡ name)
    × IsFrom (Some (library_by (import_of chains header k).ordinal)) from

abbrev pub TableLooksUp : List ℕ → ChainHeader → List ℕ → Library → Type 0
TableLooksUp chains header name from =
    (¬ ImportsEndPast chains header)
    × ((k : ℕ) × (k < header.imports_count) × ImportLooksUp chains header k name from)

abbrev pub IsChainLookUp : List ℕ → List ℕ → Library → Type 0
IsChainLookUp image name from =
    InPointers image (λ image start chains header _. TableLooksUp chains header name from) 0

abbrev pub IsLookUp : List ℕ → List ℕ → Library → Type 0
IsLookUp image name from = IsOpcodeLookUp image name from ⊎ IsChainLookUp image name from

abbrev pub HasLookUp : List ℕ → Type 0
HasLookUp image = (name : List ℕ) × (from : Library) × IsLookUp image name from

-- The rule

-- fixups look the name of a symbol up in another library than n_desc says
abbrev pub IsFromOther : List ℕ → ℕ → Symbol → Type 0
IsFromOther image symtab symbol =
    ImportsName symbol
    × ((from : Library) × IsLookUp image (name_of image symtab symbol) from × (from ≢ library_of symbol))

-- no symbol is from another library
abbrev pub NoneIsFromOther : List ℕ → Type 0
NoneIsFromOther image =
    (place : ℕ)
    → ¬ AtSymbol image (commands_of image) (λ symtab symbol. IsFromOther image symtab (symbol_at image symbol)) place

-- the rule import-library, at the place of a symbol
abbrev pub BreaksImportLibrary : List ℕ → ℕ → Type 0
BreaksImportLibrary image place =
    IsTwoLevel image
    × AtSymbol image (commands_of image) (λ symtab symbol. IsFromOther image symtab (symbol_at image symbol)) place
