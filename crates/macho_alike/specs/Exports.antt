-- Where labels of the export trie clash, so that two edges of a node fit one name. (mach-o/loader.h:
-- LC_DYLD_EXPORTS_TRIE, dyld_info_command)
use Rattle.std.specs.Prelude.{◌≡◌, ℕ, ◌-◌, ◌≤◌, ◌⊎◌, nat_eq, List, [], ◌∷◌, map, Any, IsSomeAnd, true}
use Rattle.std.specs.List.{starts_with}
use Rattle.macho_fields.specs.Field.{part}
use Rattle.macho_exports.specs.ExportTrie.{Node, node_at}
use Rattle.macho_exports.specs.ExportWalk.{Met, met_nodes, AtMet, own_place}
use Rattle.macho_exports.specs.Exports.{InExports}
use Rattle.macho_exports.specs.declared.export_trie.ExportEdge.{ExportEdge}

-- the label of an edge, without the zero byte that ends it
abbrev pub label_of : List ℕ → ExportEdge → List ℕ
label_of trie edge = part edge.label.start edge.label.len trie

abbrev pub labels_of : List ℕ → Node → List (List ℕ)
labels_of trie node = map (label_of trie) node.edges

-- one of two labels begins with the other
abbrev pub Clash : List ℕ → List ℕ → Type 0
Clash one other = (starts_with nat_eq one other ≡ true) ⊎ (starts_with nat_eq other one ≡ true)

-- an item of a list and a later one have R
abbrev pub AnyTwo : {X : Type 0} → (X → X → Type 0) → List X → Type 0
AnyTwo R [] = ⊥
AnyTwo R (x ∷ xs) = Any (R x) xs ⊎ AnyTwo R xs

-- a label is empty, or two of them clash
abbrev pub HasClash : List (List ℕ) → Type 0
HasClash labels = Any (λ label. label ≡ []) labels ⊎ AnyTwo Clash labels

-- of a node at an offset in the table
abbrev pub HasClashAt : List ℕ → ℕ → Type 0
HasClashAt trie place = IsSomeAnd (node_at trie place) (λ node. HasClash (labels_of trie node))

-- of a node that is met, which has no more bytes than are left
abbrev pub IsUnclear : List ℕ → Met → Type 0
IsUnclear trie met =
    IsSomeAnd (node_at trie met.place) (λ node. (node.end - met.place ≤ met.left) × HasClash (labels_of trie node))

abbrev pub UnclearNode : List ℕ → ℕ → Type 0
UnclearNode trie = AtMet own_place (IsUnclear trie) (met_nodes trie)

-- the rule export-edge, at the place of a node in the image
abbrev pub BreaksExportEdge : List ℕ → ℕ → Type 0
BreaksExportEdge image = InExports image (λ _. UnclearNode)
