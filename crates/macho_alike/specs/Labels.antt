-- The labels of a node, as they are read and compared.
use Rattle.std.specs.Prelude.{◌≡◌, ℕ, ◌⊎◌, List, [], ◌++◌, map, Any, Some, None, Bool, true, false}
use Rattle.std.specs.Borrow.{Bor}
use Rattle.macho_exports.specs.ExportTrie.{edges_at}
use Rattle.macho_exports.specs.declared.export_trie.ExportEdge.{ExportEdge}
use Rattle.macho_exports.specs.declared.export_trie.ExportNode.{ExportNode}
use Rattle.macho_alike.specs.Exports.{Clash, label_of}

-- what is borrowed
abbrev pub texts : List (Bor (List ℕ)) → List (List ℕ)
texts labels = map (λ (label : Bor (List ℕ)). label.now) labels

-- The labels of a node were added to some, if its edges end in the table.
abbrev pub AreLabels : List ℕ → ExportNode → List (Bor (List ℕ)) → List (Bor (List ℕ)) → Bool → Type 0
AreLabels trie node old new true =
    (edges : List ExportEdge × ℕ) × (edges_at node.edge_count trie node.edges ≡ Some edges)
    × (texts new ≡ texts old ++ map (label_of trie) edges.0)
AreLabels trie node old new false = edges_at node.edge_count trie node.edges ≡ None

-- a label after others is empty, or clashes with one of them
abbrev pub IsBad : List (List ℕ) → List ℕ → Type 0
IsBad before label = (label ≡ []) ⊎ Any (λ other. Clash other label) before
