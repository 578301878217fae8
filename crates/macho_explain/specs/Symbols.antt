-- What the rules of symbols are about. (mach-o/nlist.h: nlist_64)
use Rattle.std.specs.Prelude.{ℕ, List}
use Rattle.macho_explain.specs.Explain.{IsSymbolAt}
use Rattle.macho_explain.specs.Wholes.{Opens}

-- a symbol of the symbol table begins at the place
abbrev pub HasSymbol : List ℕ → ℕ → Type 0
HasSymbol image place = Opens image × ((index : ℕ) × IsSymbolAt image index place)
