-- What readers answer about the library of an undefined symbol, and that all answers are the same. (mach-o/nlist.h:
-- nlist_64, GET_LIBRARY_ORDINAL)
use Rattle.std.specs.Prelude.{◌≡◌, ℕ, ◌⊎◌, List}
use Rattle.macho_image.specs.Symbol.{symbol_at}
use Rattle.macho_symbols.specs.Header.{IsTwoLevel}
use Rattle.macho_alike.specs.Definitions.{name_of}
use Rattle.macho_alike.specs.Imports.{ImportsName, IsLookUp, library_of}
use Rattle.macho_alike.specs.SymbolModels.{symbol_place, HasSymbol}
use Rattle.macho_alike.specs.declared.binds.Library.{Library}

-- the symbol with an index is undefined, and has a name
abbrev pub HasImport : List ℕ → ℕ → ℕ → Type 0
HasImport image symtab k =
    HasSymbol image symtab k × ImportsName (symbol_at image (symbol_place image symtab k))

-- From which library is it? A list of symbols says it by n_desc (nm). A loader takes the library in which a bind or an
-- import of its name is looked up (dyld). A name that is looked up by weakness has no answer there.

abbrev pub IsLibraryByDesc : List ℕ → ℕ → ℕ → Library → Type 0
IsLibraryByDesc image symtab k from = from ≡ library_of (symbol_at image (symbol_place image symtab k))

abbrev pub IsLibraryByFixups : List ℕ → ℕ → ℕ → Library → Type 0
IsLibraryByFixups image symtab k from =
    IsLookUp image (name_of image symtab (symbol_at image (symbol_place image symtab k))) from

abbrev pub IsLibraryOf : List ℕ → ℕ → ℕ → Library → Type 0
IsLibraryOf image symtab k from = IsLibraryByDesc image symtab k from ⊎ IsLibraryByFixups image symtab k from

-- in an image without MH_TWOLEVEL n_desc names no library
abbrev pub HasOneLibrary : List ℕ → Type 0
HasOneLibrary image =
    IsTwoLevel image → (symtab k : ℕ) → HasImport image symtab k → (a b : Library) → IsLibraryOf image symtab k a
    → IsLibraryOf image symtab k b → a ≡ b
