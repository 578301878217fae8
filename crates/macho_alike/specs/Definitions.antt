-- What the symbols of an image define for others, and where one of them says something else of its name than an earlier
-- one. (mach-o/nlist.h: nlist_64; mach-o/loader.h: symtab_command)
use Rattle.std.specs.Prelude.{◌≡◌, ◌≢◌, ℕ, ◌+◌, ◌<◌, List, IsSome, bit_and}
use Rattle.macho_fields.specs.Field.{string_from}
use Rattle.macho_fields.specs.Image.{commands_of}
use Rattle.macho_fields.specs.Symbol.{nsyms, stroff, AtSymbol}
use Rattle.macho_fields.specs.declared.header.loader.TheConstants.{LC_SYMTAB}
use Rattle.macho_fields.specs.declared.header.nlist.TheConstants.{N_TYPE, N_WEAK_DEF}
use Rattle.macho_image.specs.Command.{first_with_cmd}
use Rattle.macho_image.specs.Symbol.{symbol_at}
use Rattle.macho_image.specs.declared.symbol.Symbol.{Symbol}
use Rattle.macho_alike.specs.SymbolModels.{symbol_place}
use Rattle.macho_alike.specs.Symbols.{IsDefined}
use Rattle.macho_alike.specs.declared.definitions.Meaning.{Meaning}

-- it is external and defined, and it has a name
abbrev pub DefinesName : Symbol → Type 0
DefinesName symbol = IsDefined symbol.kind × (symbol.strx ≢ 0)

-- the bytes before the first zero byte, from stroff + n_strx on
abbrev pub name_of : List ℕ → ℕ → Symbol → List ℕ
name_of image symtab symbol = string_from (stroff image symtab + symbol.strx) image

-- what it says of its name: where it is, by which kind of value, and whether weakly
abbrev pub meaning_of : Symbol → Meaning
meaning_of symbol = record {
  value = symbol.value;
  kind = bit_and symbol.kind N_TYPE;
  weak = bit_and symbol.desc N_WEAK_DEF;
}

-- two symbols define one name, and say something else of it
abbrev pub Disagree : List ℕ → ℕ → Symbol → Symbol → Type 0
Disagree image symtab a b =
    DefinesName a × DefinesName b × (name_of image symtab a ≡ name_of image symtab b) × (meaning_of a ≢ meaning_of b)

-- an earlier symbol of the table and the symbol at the place disagree
abbrev pub DisagreesEarlier : List ℕ → ℕ → ℕ → Type 0
DisagreesEarlier image symtab place =
    (k : ℕ) × (k < nsyms image symtab) × (symbol_place image symtab k < place)
    × Disagree image symtab (symbol_at image (symbol_place image symtab k)) (symbol_at image place)

-- the rule export-symbol, of symbols alone, at the place of a symbol: an earlier one defines the name otherwise
abbrev pub BreaksDefinition : List ℕ → ℕ → Type 0
BreaksDefinition image place = AtSymbol image (commands_of image) (DisagreesEarlier image) place

-- the image has a symbol table
abbrev pub HasSymtab : List ℕ → Type 0
HasSymtab image = IsSome (first_with_cmd image LC_SYMTAB (commands_of image))
