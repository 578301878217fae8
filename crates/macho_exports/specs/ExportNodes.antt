-- The nodes of the export trie that wait while it is walked.
use Rattle.std.specs.Prelude.{◌≡◌, ℕ, List, [], ◌∷◌, ◌++◌, reverse, map, Option, None, Some, MatchOption}
use Rattle.macho_exports.specs.ExportTrie.{Node, node_at, edges_at}
use Rattle.macho_exports.specs.ExportWalk.{children}
use Rattle.macho_exports.specs.declared.export_trie.ExportEdge.{ExportEdge}
use Rattle.macho_exports.specs.declared.export_trie.ExportNode.{ExportNode}
use Rattle.macho_exports.specs.declared.export_walk.Waiting.{Waiting}
use Rattle.macho_exports.specs.declared.export_walk.MetNode.{MetNode}

-- the places of the waiting nodes: the last of the stack is the first
abbrev pub waiting_places : Waiting → List ℕ
waiting_places waiting = reverse waiting.stack.items

-- the first of some places is taken from them, if there is one
abbrev pub IsNextPlace : List ℕ → List ℕ → Option ℕ → Type 0
IsNextPlace old new next = MatchOption next (old ≡ []) (λ place. old ≡ place ∷ new)

-- A node was read at a place, and its children wait before the others. Nothing was read if it does not end.
abbrev pub IsMetAt : List ℕ → ℕ → List ℕ → List ℕ → Option MetNode → Type 0
IsMetAt trie place old new met =
    MatchOption met (node_at trie place ≡ None) (λ met.
    (node : Node) × (node_at trie place ≡ Some node) × (met.terminal ≡ node.terminal)
    × (met.end ≡ node.end) × (new ≡ children node ++ old))

-- the edges of a node were read up to a place, and where they lead was added to some places
abbrev pub AreChildren : List ℕ → ExportNode → List ℕ → List ℕ → Option ℕ → Type 0
AreChildren trie node old new end =
    MatchOption end (edges_at node.edge_count trie node.edges ≡ None) (λ end.
    (edges : List ExportEdge) × (edges_at node.edge_count trie node.edges ≡ Some (edges, end))
    × (new ≡ old ++ map (λ (edge : ExportEdge). edge.child) edges))
