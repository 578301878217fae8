-- What readers answer about an exported name, and that all answers are the same. (mach-o/loader.h:
-- LC_DYLD_EXPORTS_TRIE, dyld_info_command)
use Rattle.std.specs.Prelude.{◌≡◌, ℕ, ◌<◌, ◌⊎◌, ◌↔◌, List, [], ◌∷◌, ◌++◌, Contains, Some}
use Rattle.macho_fields.specs.Field.{part}
use Rattle.macho_spans.specs.declared.span.Span.{Span}
use Rattle.macho_exports.specs.ExportTrie.{Node, node_at, find_terminal}
use Rattle.macho_exports.specs.Exports.{export_table}
use Rattle.macho_exports.specs.declared.export_trie.ExportEdge.{ExportEdge}
use Rattle.macho_alike.specs.Exports.{label_of}

-- a path of edges: each one starts at the node to which the edge before it leads
abbrev pub IsPath : List ℕ → ℕ → List ExportEdge → ℕ → Type 0
IsPath trie place [] end = place ≡ end
IsPath trie place (edge ∷ path) end =
    (node : Node) × (node_at trie place ≡ Some node) × Contains node.edges edge × IsPath trie edge.child path end

-- the name that their labels spell
abbrev pub spelled : List ℕ → List ExportEdge → List ℕ
spelled trie [] = []
spelled trie (edge ∷ path) = label_of trie edge ++ spelled trie path

-- Where is the export with a name? Readers that list all exports (LLVM, dyld_info) walk over all nodes, and show the
-- terminal part of each node to which a path from the root leads that spells the name. A tool takes the first part, or
-- the last. A look-up (dyld, the verifier) follows the first edge that fits at each node.

abbrev pub IsListed : List ℕ → List ℕ → Span → Type 0
IsListed trie name terminal =
    (path : List ExportEdge) × (end : ℕ) × IsPath trie 0 path end × (spelled trie path ≡ name)
    × ((node : Node) × (node_at trie end ≡ Some node) × (0 < node.terminal.len) × (node.terminal ≡ terminal))

abbrev pub IsFound : List ℕ → List ℕ → Span → Type 0
IsFound trie name terminal = find_terminal trie name ≡ Some terminal

abbrev pub IsExportOf : List ℕ → List ℕ → Span → Type 0
IsExportOf trie name terminal = IsListed trie name terminal ⊎ IsFound trie name terminal

-- any two answers are the same, and the names that are listed are the names that are found
pub record HasOneExport (trie : List ℕ) : Type 0 where
  pub one : (name : List ℕ) (a b : Span) → IsExportOf trie name a → IsExportOf trie name b → a ≡ b
  pub same : (name : List ℕ) (terminal : Span) → IsListed trie name terminal ↔ IsFound trie name terminal

-- of the trie of an image
abbrev pub HasOneExportOfName : List ℕ → Type 0
HasOneExportOfName image =
    (table : Span) → export_table image ≡ Some table → HasOneExport (part table.start table.len image)
