-- What readers answer about a name that an image defines, and that all answers are the same. (mach-o/nlist.h: nlist_64)
use Rattle.std.specs.Prelude.{◌≡◌, ℕ, ◌≤◌, ◌⊎◌, List}
use Rattle.macho_image.specs.Symbol.{symbol_at}
use Rattle.macho_alike.specs.SymbolModels.{symbol_place, HasSymbol}
use Rattle.macho_alike.specs.Definitions.{DefinesName, name_of, meaning_of}
use Rattle.macho_alike.specs.declared.definitions.Meaning.{Meaning}

-- the symbol with an index defines the name
abbrev pub IsDefinition : List ℕ → ℕ → List ℕ → ℕ → Type 0
IsDefinition image symtab name k =
    HasSymbol image symtab k × DefinesName (symbol_at image (symbol_place image symtab k))
    × (name_of image symtab (symbol_at image (symbol_place image symtab k)) ≡ name)

-- Where is a name, what is its value relative to, and is it weak? A reader that looks for it from the first symbol on
-- takes the first definition. One that fills a table of names keeps the last.

abbrev pub IsFirstDefinition : List ℕ → ℕ → List ℕ → ℕ → Type 0
IsFirstDefinition image symtab name k =
    IsDefinition image symtab name k × ((j : ℕ) → IsDefinition image symtab name j → k ≤ j)

abbrev pub IsLastDefinition : List ℕ → ℕ → List ℕ → ℕ → Type 0
IsLastDefinition image symtab name k =
    IsDefinition image symtab name k × ((j : ℕ) → IsDefinition image symtab name j → j ≤ k)

abbrev pub IsMeaningOfName : List ℕ → ℕ → List ℕ → Meaning → Type 0
IsMeaningOfName image symtab name meaning =
    (k : ℕ) × (IsFirstDefinition image symtab name k ⊎ IsLastDefinition image symtab name k)
    × (meaning ≡ meaning_of (symbol_at image (symbol_place image symtab k)))

abbrev pub HasOneMeaningOfName : List ℕ → Type 0
HasOneMeaningOfName image =
    (symtab : ℕ) (name : List ℕ) (a b : Meaning) → IsMeaningOfName image symtab name a
    → IsMeaningOfName image symtab name b → a ≡ b

-- Any reader: whichever definition of the name it takes, it says the same.
abbrev pub AllDefinitionsAgree : List ℕ → Type 0
AllDefinitionsAgree image =
    (symtab : ℕ) (name : List ℕ) (j k : ℕ) → IsDefinition image symtab name j → IsDefinition image symtab name k
    → meaning_of (symbol_at image (symbol_place image symtab j)) ≡ meaning_of (symbol_at image (symbol_place image symtab k))
