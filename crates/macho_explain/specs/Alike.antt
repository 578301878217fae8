-- What is shown where readers see another export, another kind of a symbol, or something else of a name.
-- (mach-o/loader.h: symtab_command, dysymtab_command, LC_DYLD_EXPORTS_TRIE; mach-o/nlist.h: nlist_64)
use Rattle.std.specs.Prelude.{◌≡◌, ◌≢◌, ℕ, ◌+◌, ◌*◌, ◌≤◌, ◌<◌, ◌⊎◌, nat_le, List, [], length, map, take, slice_get, Option, None, IsSomeAnd, if◌then◌else◌}
use Rattle.std.specs.List.{sum_by}
use Rattle.std.specs.Option.{option_and_then, option_map, option_map_or}
use Rattle.macho_fields.specs.Field.{part, string_from}
use Rattle.macho_fields.specs.Image.{commands_of}
use Rattle.macho_fields.specs.Segment.{base_of}
use Rattle.macho_fields.specs.Symbol.{n_type, stroff}
use Rattle.macho_fields.specs.declared.header.loader.TheConstants as loader
use Rattle.macho_image.specs.Command.{first_with_cmd}
use Rattle.macho_image.specs.Symbol.{dysymtab_at, symbol_at, symbols_of}
use Rattle.macho_image.specs.declared.dysymtab.Dysymtab.{Dysymtab}
use Rattle.macho_image.specs.declared.symbol.Symbol.{Symbol}
use Rattle.macho_exports.specs.ExportTrie.{edges_at, find_export, node_at}
use Rattle.macho_exports.specs.Exports.{export_table}
use Rattle.macho_exports.specs.declared.export_trie.ExportEdge.{ExportEdge}
use Rattle.macho_exports.specs.declared.export_trie.Target.{Target}
use Rattle.macho_exports.specs.declared.export_trie.Target.TheVariants as target
use Rattle.macho_spans.specs.Span.{end_of}
use Rattle.macho_alike.specs.Definitions.{DefinesName, meaning_of}
use Rattle.macho_alike.specs.Exports.{label_of, labels_of, Clash}
use Rattle.macho_alike.specs.SymbolModels.{group_of, IsOfType, SymbolKind}
use Rattle.macho_alike.specs.SymbolTotal.{has_external_name}
use Rattle.macho_alike.specs.Symbols.{IsMisgrouped}
use Rattle.macho_explain.specs.Explain.{written, IsSymbolAt}
use Rattle.macho_explain.specs.declared.conflict.Conflict.{Conflict}
use Rattle.macho_explain.specs.declared.part.PartKind.TheVariants as parts

-- Exports

-- the labels of so many edges from a place on, if they end in the trie
abbrev pub labels_from : ℕ → List ℕ → ℕ → Option (List (List ℕ))
labels_from count trie place =
    option_map (λ (edges : List ExportEdge × ℕ). map (label_of trie) edges.0) (edges_at count trie place)

-- the label with an index clashes with another one
abbrev pub ClashesAt : List (List ℕ) → ℕ → List ℕ → Type 0
ClashesAt labels j label = IsSomeAnd (slice_get labels j) (λ other. Clash other label)

-- the label with an index is empty, and both numbers are the index; or it clashes with the earlier label with the other
abbrev pub IsClashShown : List (List ℕ) → ℕ → ℕ → Type 0
IsClashShown labels k j =
    IsSomeAnd (slice_get labels k) (λ label.
    ((j ≡ k) × (label ≡ [])) ⊎ ((j < k) × ClashesAt labels j label))

-- of the node at an offset of a trie
abbrev pub IsEdgeShown : List ℕ → ℕ → ℕ → ℕ → Type 0
IsEdgeShown trie offset k j = IsSomeAnd (node_at trie offset) (λ node. IsClashShown (labels_of trie node) k j)

-- Kinds of symbols

-- the groups of an image
abbrev pub groups_in : List ℕ → Option Dysymtab
groups_in image = option_map (dysymtab_at image) (first_with_cmd image loader.LC_DYSYMTAB (commands_of image))

-- a symbol with this index and this type is not in exactly the one group that its type says
abbrev pub IsMisgroupedIn : Option Dysymtab → ℕ → ℕ → Type 0
IsMisgroupedIn groups index bits = IsSomeAnd groups (λ g. IsMisgrouped g index bits)

-- the second part is a group, by its first index and its count, and the limit is the first index
abbrev pub IsGroupPart : ℕ × ℕ → Conflict → Type 0
IsGroupPart group c =
    (c.limit ≡ group.0)
    × IsSomeAnd c.second (λ part. (part.kind ≡ parts.Group) × (part.start ≡ group.0) × (part.size ≡ group.1))

-- the symbol is misgrouped, and the group is the one that its type says
abbrev pub IsGroupShownIn : Option Dysymtab → ℕ → ℕ → Conflict → Type 0
IsGroupShownIn groups index bits c =
    IsSomeAnd groups (λ g. IsMisgrouped g index bits
    × ((kind : SymbolKind) × IsOfType bits kind × IsGroupPart (group_of g kind) c))

-- how many bytes the first string has, and 0 without a symbol table
abbrev pub IsStringShown : List ℕ → ℕ → Type 0
IsStringShown image size =
    size ≡ option_map_or (λ symtab. length (string_from (stroff image symtab) image))
    (first_with_cmd image loader.LC_SYMTAB (commands_of image)) 0

-- of a symbol with an index and a type the group; or the first string, if the symbol is not misgrouped
abbrev pub IsKindSeen : List ℕ → ℕ → ℕ → Conflict → Type 0
IsKindSeen image index bits c =
    IsGroupShownIn (groups_in image) index bits c
    ⊎ ((¬ IsMisgroupedIn (groups_in image) index bits) × IsStringShown image c.limit)

-- the index of the symbol at the place, and this of it
abbrev pub IsSymbolKindShown : List ℕ → ℕ → Conflict → Type 0
IsSymbolKindShown image place c =
    IsSymbolAt image c.value place × IsKindSeen image c.value (n_type image place) c

-- Names of symbols

abbrev pub symbols_in : List ℕ → List Symbol
symbols_in image = map (symbol_at image) (symbols_of image (commands_of image))

-- the bytes before the first zero byte, from stroff + n_strx on
abbrev pub name_in : List ℕ → Symbol → List ℕ
name_in image symbol =
    option_map_or (λ symtab. string_from (stroff image symtab + symbol.strx) image)
    (first_with_cmd image loader.LC_SYMTAB (commands_of image)) []

-- another symbol defines the same name, and says something else of it
abbrev pub IsOther : List ℕ → Symbol → Symbol → Type 0
IsOther image symbol other =
    DefinesName other × DefinesName symbol × (name_in image other ≡ name_in image symbol)
    × (meaning_of other ≢ meaning_of symbol)

-- among so many first symbols, one says another thing of the name
abbrev pub IsOtherBefore : List ℕ → Symbol → ℕ → Type 0
IsOtherBefore image symbol index =
    (k : ℕ) × (k < index) × IsSomeAnd (slice_get (symbols_in image) k) (IsOther image symbol)

-- and has this value
abbrev pub IsEarlierValue : List ℕ → Symbol → ℕ → ℕ → Type 0
IsEarlierValue image symbol index value =
    (k : ℕ) × (k < index)
    × IsSomeAnd (slice_get (symbols_in image) k) (λ other. IsOther image symbol other × (value ≡ other.value))

-- the address to which an export leads, from the base
abbrev pub address_by : Option ℕ → Target → Option ℕ
address_by base (target.Address address resolver) = option_map (λ b. written (b + address)) base
address_by base (target.Reexport ordinal name) = None

-- the address that a look-up of a name in the export trie of the image finds, if the trie lies in the image
abbrev pub exported_address : List ℕ → List ℕ → Option ℕ
exported_address image name =
    option_and_then (λ table.
    if nat_le (end_of table) (length image)
    then option_and_then (λ e. address_by (base_of image (commands_of image)) e.target)
    (find_export (part table.start table.len image) name)
    else None) (export_table image)

-- the same as a number, which is 0 where no export is found
abbrev pub exported_value : List ℕ → List ℕ → ℕ
exported_value image name = option_map_or (λ address. address) (exported_address image name) 0

-- of a symbol with an index the value of an earlier symbol that says something else of the name; or the address of the
-- export, if no earlier symbol does
abbrev pub IsOtherValue : List ℕ → Symbol → ℕ → ℕ → Type 0
IsOtherValue image symbol index value =
    IsEarlierValue image symbol index value
    ⊎ ((¬ IsOtherBefore image symbol index) × (value ≡ exported_value image (name_in image symbol)))

-- the value of the symbol at the place, and this of it
abbrev pub IsDefinitionShown : List ℕ → ℕ → Conflict → Type 0
IsDefinitionShown image place c =
    (c.value ≡ (symbol_at image place).value)
    × ((index : ℕ) × IsSymbolAt image index place × IsOtherValue image (symbol_at image place) index c.limit)

-- The names of external symbols

-- how many bytes its name has, with the zero byte that ends it
abbrev pub name_size : List ℕ → Symbol → ℕ
name_size image symbol = if has_external_name symbol then length (name_in image symbol) + 1 else 0

-- the names of the first symbols, so many
abbrev pub names_size : List ℕ → ℕ → ℕ
names_size image count = sum_by (name_size image) (take count (symbols_in image))

-- how many bytes the names have up to the symbol with an index, or up to an earlier symbol at which they have more than
-- the image
abbrev pub AreNamesUpTo : List ℕ → ℕ → ℕ → Type 0
AreNamesUpTo image index size =
    (k : ℕ) × (k ≤ index) × (size ≡ written (names_size image (k + 1)))
    × ((k ≡ index) ⊎ (length image < size))

abbrev pub IsTotalShown : List ℕ → ℕ → Conflict → Type 0
IsTotalShown image place c =
    ((index : ℕ) × IsSymbolAt image index place × AreNamesUpTo image index c.value) × (c.limit ≡ length image)

-- Indirect entries

-- the indirect entry with an index is at the place
abbrev pub IsIndirectAt : List ℕ → ℕ → ℕ → Type 0
IsIndirectAt image index place =
    IsSomeAnd (groups_in image) (λ dysymtab.
    (index < dysymtab.nindirectsyms) × (place ≡ dysymtab.indirectsymoff + loader.INDIRECT_ENTRY_SIZE * index))
