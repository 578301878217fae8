-- The symbols of an image, and where they break their rules. (mach-o/nlist.h: nlist_64)
use Rattle.std.specs.Prelude.{ℕ, ◌+◌, ◌<◌, List}
use Rattle.macho_fields.specs.Field.{HasZero}
use Rattle.macho_fields.specs.FirstPlace.{IsLeastPlace}
use Rattle.macho_fields.specs.Image.{commands_of}
use Rattle.macho_fields.specs.Symbol.{stroff, strsize, symbol_count, AtSymbol, IsSectionType}
use Rattle.macho_image.specs.Symbol.{symbol_at}
use Rattle.macho_image.specs.declared.symbol.Symbol.{Symbol}
use Rattle.macho_symbols.specs.Addresses.{IsNearSegment}
use Rattle.macho_symbols.specs.Header.{IsTwoLevel}
use Rattle.macho_symbols.specs.Nlist.{HasType, NamesNoLibrary}
use Rattle.macho_symbols.specs.Sections.{IsMappedSection}
use Rattle.macho_fields.specs.declared.header.nlist.TheConstants.{N_INDR}
use Rattle.macho_symbols.specs.declared.symbols.SymbolSurvey.{SymbolSurvey}
use Rattle.macho_tables.specs.Limits.{library_count}

-- each undefined symbol says which library it is from, and this one does not
abbrev pub LacksLibrary : List ℕ → Symbol → Type 0
LacksLibrary image symbol = IsTwoLevel image × NamesNoLibrary (library_count image) symbol

-- a section of a mapped segment defines it, and its value is not an address of a mapped segment, and not the end of one
abbrev pub IsAstraySymbol : List ℕ → Symbol → Type 0
IsAstraySymbol image symbol =
    IsSectionType symbol.kind × IsMappedSection image symbol.sect × ¬ IsNearSegment image symbol.value

-- it stands for another name, and no zero byte ends the name that begins at n_value in the string table
abbrev pub IsEndless : List ℕ → ℕ → Symbol → Type 0
IsEndless image symtab symbol =
    HasType N_INDR symbol
    × ¬ HasZero image (stroff image symtab + symbol.value) (stroff image symtab + strsize image symtab)

-- The rules symbol-library, symbol-value and symbol-indirect

abbrev pub BreaksSymbolLibrary : List ℕ → ℕ → Type 0
BreaksSymbolLibrary image place =
    AtSymbol image (commands_of image)
    (λ symtab symbol. LacksLibrary image (symbol_at image symbol)) place

abbrev pub BreaksSymbolValue : List ℕ → ℕ → Type 0
BreaksSymbolValue image place =
    AtSymbol image (commands_of image) (λ symtab symbol. IsAstraySymbol image (symbol_at image symbol)) place

abbrev pub BreaksSymbolIndirect : List ℕ → ℕ → Type 0
BreaksSymbolIndirect image place =
    AtSymbol image (commands_of image)
    (λ symtab symbol. IsEndless image symtab (symbol_at image symbol)) place

-- the least places at which an image breaks them
pub record IsLeastOfImage (image : List ℕ) (survey : SymbolSurvey) : Type 0 where
  pub library : IsLeastPlace (BreaksSymbolLibrary image) survey.library
  pub value : IsLeastPlace (BreaksSymbolValue image) survey.value
  pub indirect : IsLeastPlace (BreaksSymbolIndirect image) survey.indirect

-- the image has symbols
abbrev pub HasSymbols : List ℕ → Type 0
HasSymbols image = 0 < symbol_count image (commands_of image)
