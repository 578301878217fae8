-- What readers answer about a symbol, by its index in the table, and that all answers are the same. A model of a reader
-- is a relation between a question and an answer. It may have none: a reader that refuses shows no other symbol.
-- (mach-o/nlist.h: nlist_64; mach-o/loader.h: symtab_command, dysymtab_command)
use Rattle.std.specs.Prelude.{◌≡◌, ◌≢◌, ℕ, ◌+◌, ◌*◌, ◌<◌, ◌⊎◌, ◌↔◌, List, [], ◌∷◌, Contains, Some, IsSomeAnd}
use Rattle.macho_fields.specs.Field.{string_from}
use Rattle.macho_fields.specs.Image.{commands_of, with_cmd}
use Rattle.macho_fields.specs.Symbol.{symoff, nsyms, stroff, n_strx, n_type}
use Rattle.macho_fields.specs.declared.header.loader.TheConstants.{LC_SYMTAB, LC_DYSYMTAB}
use Rattle.macho_fields.specs.declared.header.nlist.TheConstants.{NLIST_64_SIZE}
use Rattle.macho_image.specs.Command.{first_with_cmd}
use Rattle.macho_image.specs.Symbol.{dysymtab_at}
use Rattle.macho_image.specs.declared.dysymtab.Dysymtab.{Dysymtab}
use Rattle.macho_alike.specs.Symbols.{IsLocal, IsDefined, IsUndefined, IsIn}
use Rattle.macho_alike.specs.declared.symbols.TheConstants.{SPACE}

-- the place of the symbol with an index
abbrev pub symbol_place : List ℕ → ℕ → ℕ → ℕ
symbol_place image symtab k = symoff image symtab + NLIST_64_SIZE * k

-- a table of the image has a symbol with the index
abbrev pub HasSymbol : List ℕ → ℕ → ℕ → Type 0
HasSymbol image symtab k = Contains (with_cmd image LC_SYMTAB (commands_of image)) symtab × (k < nsyms image symtab)

-- Which kind of symbol is it? Its type says it (nm, LLVM), and its group (Go, strip, loaders before chained fixups).

pub data SymbolKind : Type 0 where
  Local : SymbolKind
  Defined : SymbolKind
  Undefined : SymbolKind

abbrev pub IsOfType : ℕ → SymbolKind → Type 0
IsOfType bits Local = IsLocal bits
IsOfType bits Defined = IsDefined bits
IsOfType bits Undefined = IsUndefined bits

abbrev pub group_of : Dysymtab → SymbolKind → ℕ × ℕ
group_of groups Local = (groups.ilocalsym, groups.nlocalsym)
group_of groups Defined = (groups.iextdefsym, groups.nextdefsym)
group_of groups Undefined = (groups.iundefsym, groups.nundefsym)

abbrev pub IsKindByType : List ℕ → ℕ → ℕ → SymbolKind → Type 0
IsKindByType image symtab k kind = IsOfType (n_type image (symbol_place image symtab k)) kind

abbrev pub IsKindByGroup : List ℕ → ℕ → SymbolKind → Type 0
IsKindByGroup image k kind =
    IsSomeAnd (first_with_cmd image LC_DYSYMTAB (commands_of image)) (λ dysymtab.
    IsIn (group_of (dysymtab_at image dysymtab) kind) k)

abbrev pub IsKindOf : List ℕ → ℕ → ℕ → SymbolKind → Type 0
IsKindOf image symtab k kind = IsKindByType image symtab k kind ⊎ IsKindByGroup image k kind

abbrev pub HasOneKind : List ℕ → Type 0
HasOneKind image =
    (symtab k : ℕ) → HasSymbol image symtab k → (a b : SymbolKind) → IsKindOf image symtab k a → IsKindOf image symtab k b
    → a ≡ b

-- Which symbols are of a kind? Readers by group show those by type, and no others, if there are groups.
abbrev pub HasSameGroups : List ℕ → Type 0
HasSameGroups image =
    (dysymtab : ℕ) → first_with_cmd image LC_DYSYMTAB (commands_of image) ≡ Some dysymtab → (symtab k : ℕ)
    → HasSymbol image symtab k → (kind : SymbolKind) → IsKindByGroup image k kind ↔ IsKindByType image symtab k kind

-- Which name does a symbol show whose n_strx is 0? None (nlist.h, the verifier), or the first string (LLVM, Go). A string
-- of one space shows nothing.

abbrev pub IsShown : List ℕ → List ℕ → Type 0
IsShown string name =
    ((string ≡ SPACE ∷ []) × (name ≡ [])) ⊎ ((string ≢ SPACE ∷ []) × (name ≡ string))

abbrev pub IsNameWithoutOffset : List ℕ → ℕ → List ℕ → Type 0
IsNameWithoutOffset image symtab name =
    (name ≡ []) ⊎ IsShown (string_from (stroff image symtab) image) name

abbrev pub HasOneName : List ℕ → Type 0
HasOneName image =
    (symtab k : ℕ) → HasSymbol image symtab k → n_strx image (symbol_place image symtab k) ≡ 0 → (a b : List ℕ)
    → IsNameWithoutOffset image symtab a → IsNameWithoutOffset image symtab b → a ≡ b
