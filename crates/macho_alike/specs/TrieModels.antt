-- What readers answer about a name for which the export trie has an export of the image, and that all answers are the
-- same. (mach-o/nlist.h: nlist_64; mach-o/loader.h: LC_DYLD_EXPORTS_TRIE, EXPORT_SYMBOL_FLAGS_..)
use Rattle.std.specs.Prelude.{◌≡◌, ℕ, ◌+◌, ◌⊎◌, ◌↔◌, List, Bool, Some, IsTrue}
use Rattle.macho_fields.specs.Image.{commands_of}
use Rattle.macho_fields.specs.Segment.{base_of}
use Rattle.macho_image.specs.Symbol.{symbol_at}
use Rattle.macho_image.specs.declared.symbol.Symbol.{Symbol}
use Rattle.macho_exports.specs.declared.export_trie.Export.{Export}
use Rattle.macho_alike.specs.SymbolModels.{symbol_place, HasSymbol}
use Rattle.macho_alike.specs.Definitions.{name_of}
use Rattle.macho_alike.specs.Names.{HasExternalName}
use Rattle.macho_alike.specs.TrieSymbols.{IsAt, IsFromElsewhere, IsWeakSymbol, IsWeakExport, IsExportedAs}

-- Where is the name, and is it weak? Another image defines it, or it stands for another name; or this image defines it,
-- at an address, and weakly or not.

pub data Origin : Type 0 where
  Elsewhere : Origin
  Here : ℕ → Bool → Origin

-- A look-up (dyld, dlsym, the verifier) takes the export that it finds, if it is one of the image: not absolute, no
-- symbol of another library, and without a resolver.
abbrev pub IsOriginByTrie : List ℕ → List ℕ → Origin → Type 0
IsOriginByTrie image name Elsewhere = ⊥
IsOriginByTrie image name (Here at weak) =
    (export : Export) × (address : ℕ) × (base : ℕ) × IsExportedAs image name export × IsAt export address
    × (base_of image (commands_of image) ≡ Some base) × (at ≡ base + address) × (IsTrue weak ↔ IsWeakExport export.flags)

abbrev pub IsOriginOf : Symbol → Origin → Type 0
IsOriginOf symbol Elsewhere = IsFromElsewhere symbol
IsOriginOf symbol (Here at weak) =
    (¬ IsFromElsewhere symbol) × (at ≡ symbol.value) × (IsTrue weak ↔ IsWeakSymbol symbol)

-- A symbolizer, nm or a debugger takes an external symbol with the name: the first, the last or any other.
abbrev pub IsOriginBySymbol : List ℕ → List ℕ → Origin → Type 0
IsOriginBySymbol image name origin =
    (symtab : ℕ) × (k : ℕ) × HasSymbol image symtab k × HasExternalName (symbol_at image (symbol_place image symtab k))
    × (name_of image symtab (symbol_at image (symbol_place image symtab k)) ≡ name)
    × IsOriginOf (symbol_at image (symbol_place image symtab k)) origin

abbrev pub IsOriginOfName : List ℕ → List ℕ → Origin → Type 0
IsOriginOfName image name origin = IsOriginByTrie image name origin ⊎ IsOriginBySymbol image name origin

-- where a look-up answers, all give its answer
abbrev pub HasOneOrigin : List ℕ → Type 0
HasOneOrigin image =
    (name : List ℕ) (found a b : Origin) → IsOriginByTrie image name found → IsOriginOfName image name a
    → IsOriginOfName image name b → a ≡ b
