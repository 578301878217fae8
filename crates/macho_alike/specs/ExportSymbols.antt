-- The rule of the external symbols whose name is also of another definition, or of an export. (mach-o/nlist.h:
-- nlist_64; mach-o/loader.h: symtab_command, LC_DYLD_EXPORTS_TRIE)
use Rattle.std.specs.Prelude.{ℕ, ◌⊎◌, List}
use Rattle.macho_exports.specs.Exports.{HasExports}
use Rattle.macho_alike.specs.Definitions.{BreaksDefinition, HasSymtab}
use Rattle.macho_alike.specs.TrieSymbols.{BreaksTrieSymbol}

-- the rule export-symbol, at the place of a symbol: an earlier one defines the name otherwise, or the trie exports it
-- otherwise
abbrev pub BreaksExportSymbol : List ℕ → ℕ → Type 0
BreaksExportSymbol image place = BreaksDefinition image place ⊎ BreaksTrieSymbol image place

-- the image has a symbol table, or an export trie
abbrev pub HasSymbolsOrExports : List ℕ → Type 0
HasSymbolsOrExports image = HasSymtab image ⊎ HasExports image
