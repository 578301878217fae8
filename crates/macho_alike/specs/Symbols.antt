-- Which kind a symbol is of, by its type and by the groups of the symbol table, and where two readers see another symbol.
-- (mach-o/nlist.h: nlist_64; mach-o/loader.h: symtab_command, dysymtab_command)
use Rattle.std.specs.Prelude.{◌≡◌, ◌≢◌, ℕ, ◌+◌, ◌-◌, ◌/◌, ◌≤◌, ◌<◌, ◌⊎◌, List, [], ◌∷◌, IsSomeAnd, bit_and}
use Rattle.macho_fields.specs.Field.{string_from}
use Rattle.macho_fields.specs.Image.{commands_of}
use Rattle.macho_fields.specs.Symbol.{symoff, stroff, AtSymbol}
use Rattle.macho_fields.specs.declared.header.loader.TheConstants.{LC_DYSYMTAB}
use Rattle.macho_fields.specs.declared.header.nlist.TheConstants.{N_EXT, N_STAB, N_TYPE, N_UNDF, N_PBUD, NLIST_64_SIZE}
use Rattle.macho_image.specs.Command.{first_with_cmd}
use Rattle.macho_image.specs.Symbol.{symbol_at, dysymtab_at}
use Rattle.macho_image.specs.declared.dysymtab.Dysymtab.{Dysymtab}
use Rattle.macho_image.specs.declared.symbol.Symbol.{Symbol}
use Rattle.macho_alike.specs.declared.symbols.TheConstants.{SPACE}

-- By n_type

-- it has no bit of N_STAB, as debugging entries have, and the bit N_EXT
abbrev pub IsExternal : ℕ → Type 0
IsExternal bits = (bit_and bits N_STAB ≡ 0) × (bit_and bits N_EXT ≢ 0)

-- another image defines it (N_TYPE)
abbrev pub IsOfAnother : ℕ → Type 0
IsOfAnother bits = (bit_and bits N_TYPE ≡ N_UNDF) ⊎ (bit_and bits N_TYPE ≡ N_PBUD)

-- the three kinds: each type is one of them
abbrev pub IsLocal : ℕ → Type 0
IsLocal bits = ¬ IsExternal bits

abbrev pub IsDefined : ℕ → Type 0
IsDefined bits = IsExternal bits × ¬ IsOfAnother bits

abbrev pub IsUndefined : ℕ → Type 0
IsUndefined bits = IsExternal bits × IsOfAnother bits

-- By the groups of dysymtab_command, each a first index and a count

abbrev pub IsIn : ℕ × ℕ → ℕ → Type 0
IsIn group index = (group.0 ≤ index) × (index < group.0 + group.1)

-- the index of a symbol in the table of a symtab_command
abbrev pub symbol_index : List ℕ → ℕ → Symbol → ℕ
symbol_index image symtab symbol = (symbol.place - symoff image symtab) / NLIST_64_SIZE

-- one holds, and not the other
abbrev pub Differ : Type 0 → Type 0 → Type 0
Differ A B = (A × ¬ B) ⊎ ((¬ A) × B)

-- the symbol with an index is not in exactly the one group that its type says
abbrev pub IsMisgrouped : Dysymtab → ℕ → ℕ → Type 0
IsMisgrouped groups index bits =
    Differ (IsIn (groups.ilocalsym, groups.nlocalsym) index) (IsLocal bits)
    ⊎ (Differ (IsIn (groups.iextdefsym, groups.nextdefsym) index) (IsDefined bits)
    ⊎ Differ (IsIn (groups.iundefsym, groups.nundefsym) index) (IsUndefined bits))

-- an image without LC_DYSYMTAB has no groups
abbrev pub HasTwoKinds : List ℕ → ℕ → Symbol → Type 0
HasTwoKinds image symtab symbol =
    IsSomeAnd (first_with_cmd image LC_DYSYMTAB (commands_of image)) (λ dysymtab.
    IsMisgrouped (dysymtab_at image dysymtab) (symbol_index image symtab symbol) symbol.kind)

-- Names

-- the string at a place is neither empty nor a space
abbrev pub ShowsString : List ℕ → ℕ → Type 0
ShowsString image place = (string_from place image ≢ []) × (string_from place image ≢ SPACE ∷ [])

-- n_strx is 0, so that it has no name, and the first string of the table is a name
abbrev pub HasTwoNames : List ℕ → ℕ → Symbol → Type 0
HasTwoNames image symtab symbol = (symbol.strx ≡ 0) × ShowsString image (stroff image symtab)

abbrev pub IsSeenTwice : List ℕ → ℕ → Symbol → Type 0
IsSeenTwice image symtab symbol = HasTwoKinds image symtab symbol ⊎ HasTwoNames image symtab symbol

-- the rule symbol-kind, at the place of a symbol
abbrev pub BreaksSymbolKind : List ℕ → ℕ → Type 0
BreaksSymbolKind image place =
    AtSymbol image (commands_of image) (λ symtab symbol. IsSeenTwice image symtab (symbol_at image symbol)) place
