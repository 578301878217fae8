-- A walk over the export trie beside names that are sorted by their bytes: which of them lead to a node, and what the
-- symbols that end there say.
use Rattle.std.specs.Prelude.{◌≡◌, ℕ, ◌+◌, ◌≤◌, ◌<◌, ◌⊎◌, nat_lt, List, [], ◌∷◌, length, map, take, drop, slice_index_or, Contains, Option, Some, None, IsSomeAnd, MatchOption, Bool, true, false, if◌then◌else◌}
use Rattle.std.specs.Cmp.Lexicographic.{slice_cmp}
use Rattle.std.specs.Option.{option_and_then}
use Rattle.std.specs.declared.cmp.Ordering.{Ordering}
use Rattle.std.specs.declared.cmp.Ordering.TheVariants.{Less, Equal, Greater}
use Rattle.std.specs.Ordering.{nat_cmp, is_gt}
use Rattle.macho_fields.specs.declared.header.nlist.TheConstants.{NLIST_64_SIZE}
use Rattle.macho_spans.specs.Span.{end_of}
use Rattle.macho_spans.specs.declared.span.Span.{Span}
use Rattle.macho_exports.specs.ExportTrie.{Node, node_at, edges_at, export_in}
use Rattle.macho_exports.specs.ExportWalk.{Met, met_nodes, HasNoEnd, PassesTable}
use Rattle.macho_exports.specs.Exports.{is_absolute}
use Rattle.macho_exports.specs.declared.export_trie.Export.{Export}
use Rattle.macho_exports.specs.declared.export_trie.ExportEdge.{ExportEdge}
use Rattle.macho_exports.specs.declared.export_trie.ExportNode.{ExportNode}
use Rattle.macho_exports.specs.declared.export_trie.Target.{Target}
use Rattle.macho_exports.specs.declared.export_trie.Target.TheVariants as target
use Rattle.macho_image.specs.Symbol.{symbol_at}
use Rattle.macho_alike.specs.Exports.{label_of}
use Rattle.macho_alike.specs.ExportModels.{IsPath, spelled}
use Rattle.macho_alike.specs.Names.{text_of}
use Rattle.macho_alike.specs.TrieSymbols.{IsUnlike}
use Rattle.macho_alike.specs.declared.names.Named.{Named}
use Rattle.macho_alike.specs.declared.trie.Branch.{Branch}
use Rattle.macho_alike.specs.declared.trie.ImageExport.{ImageExport}

-- no node that is met is without an end, and all of them have no more bytes than the table
abbrev pub IsWhole : List ℕ → Type 0
IsWhole trie =
    ((met : Met) → Contains (met_nodes trie) met → ¬ HasNoEnd trie met)
    × ((met : Met) → Contains (met_nodes trie) met → ¬ PassesTable trie met)

-- The names

abbrev pub named_at : List Named → ℕ → Named
named_at names k = slice_index_or names k (record { name = record { start = 0; len = 0 }; place = 0 })

-- the bytes of one of the names
abbrev pub text_at : List ℕ → List Named → ℕ → List ℕ
text_at image names k = text_of image (named_at names k)

-- one does not come after the other, by its bytes
abbrev pub IsUpTo : List ℕ → List ℕ → Type 0
IsUpTo one other = is_gt (slice_cmp nat_cmp one other) ≡ false

-- Names with their symbols lie inside the image, and are sorted by their bytes.
pub record AreSorted (image : List ℕ) (names : List Named) : Type 0 where
  pub spans : (k : ℕ) → k < length names → end_of (named_at names k).name ≤ length image
  pub symbols : (k : ℕ) → k < length names → (named_at names k).place + NLIST_64_SIZE ≤ length image
  pub rising : (i j : ℕ) → i ≤ j → j < length names → IsUpTo (text_at image names i) (text_at image names j)

-- The names of a branch

-- the bytes of a name past a branch
abbrev pub rest_at : List ℕ → List Named → Branch → ℕ → List ℕ
rest_at image names branch k = drop branch.depth (text_at image names k)

-- a name of the branch
abbrev pub IsOfBranch : Branch → ℕ → Type 0
IsOfBranch branch k = (branch.first ≤ k) × (k < branch.end)

-- They are as long as the branch is deep, or longer, and they are sorted by the rest of their bytes.
pub record AreOfBranch (image : List ℕ) (names : List Named) (branch : Branch) : Type 0 where
  pub inside : branch.end ≤ length names
  pub ordered : branch.first ≤ branch.end
  pub deep : (k : ℕ) → branch.first ≤ k → k < branch.end → branch.depth ≤ (named_at names k).name.len
  pub rising : (i j : ℕ) → branch.first ≤ i → i ≤ j → j < branch.end
      → IsUpTo (rest_at image names branch i) (rest_at image names branch j)

-- an order is less, or no greater if `over`
abbrev pub is_before : Bool → Ordering → Bool
is_before over Less = true
is_before over Equal = over
is_before over Greater = false

-- whether the rest of a name begins before a label, or, if `over`, not after it
abbrev pub begins_before : List ℕ → List Named → Branch → List ℕ → Bool → ℕ → Bool
begins_before image names branch label over k =
    is_before over (slice_cmp nat_cmp (take (length label) (rest_at image names branch k)) label)

-- up to this index the names begin so, and from it on they do not
pub record IsBound (image : List ℕ) (names : List Named) (branch : Branch) (label : List ℕ) (over : Bool) (index : ℕ) : Type 0 where
  pub low : branch.first ≤ index
  pub high : index ≤ branch.end
  pub before : (k : ℕ) → branch.first ≤ k → k < index → begins_before image names branch label over k ≡ true
  pub after : (k : ℕ) → index ≤ k → k < branch.end → begins_before image names branch label over k ≡ false

-- the rest of a name begins with the label of an edge
abbrev pub GoesOn : List ℕ → List ℕ → List Named → Branch → ExportEdge → ℕ → Type 0
GoesOn image trie names branch edge k =
    take edge.label.len (rest_at image names branch k) ≡ label_of trie edge

-- a branch of some names of another one, which go on along an edge
pub record IsAlong (image trie : List ℕ) (names : List Named) (parent : Branch) (edge : ExportEdge) (branch : Branch) : Type 0 where
  pub place : branch.place ≡ edge.child
  pub depth : branch.depth ≡ parent.depth + edge.label.len
  pub low : parent.first ≤ branch.first
  pub some : branch.first < branch.end
  pub high : branch.end ≤ parent.end
  pub goes_on : (k : ℕ) → branch.first ≤ k → k < branch.end → GoesOn image trie names parent edge k

-- those that go on along the edge, if there are any
abbrev pub AreAllAlong : List ℕ → List ℕ → List Named → Branch → ExportEdge → Option Branch → Type 0
AreAllAlong image trie names parent edge found =
    MatchOption found ((k : ℕ) → IsOfBranch parent k → ¬ GoesOn image trie names parent edge k)
    (λ branch. IsAlong image trie names parent edge branch
    × ((k : ℕ) → IsOfBranch parent k → GoesOn image trie names parent edge k → IsOfBranch branch k))

-- some of the items of a list, in its order
abbrev pub IsPart : List ℕ → List ℕ → Type 0
IsPart [] ys = Unit {0}
IsPart (x ∷ xs) [] = ⊥
IsPart (x ∷ xs) (y ∷ ys) = ((x ≡ y) × IsPart xs ys) ⊎ IsPart (x ∷ xs) ys

-- the branches along some edges
pub record AreBranches (image trie : List ℕ) (names : List Named) (parent : Branch) (edges : List ExportEdge)
    (branches : List Branch) : Type 0 where
  pub places : IsPart (map (λ (branch : Branch). branch.place) branches) (map (λ (edge : ExportEdge). edge.child) edges)
  pub along : (branch : Branch) → Contains branches branch
      → (edge : ExportEdge) × Contains edges edge × IsAlong image trie names parent edge branch
  pub all : (edge : ExportEdge) → Contains edges edge → (k : ℕ) → IsOfBranch parent k
      → GoesOn image trie names parent edge k
      → (branch : Branch) × Contains branches branch × IsAlong image trie names parent edge branch × IsOfBranch branch k

-- the branches along the edges of a node, and the place past the last edge, if the edges end in the table
abbrev pub AreBranchesOf : List ℕ → List ℕ → List Named → Branch → ExportNode → List Branch → Option ℕ → Type 0
AreBranchesOf image trie names parent node branches end =
    MatchOption end (edges_at node.edge_count trie node.edges ≡ None) (λ end.
    (edges : List ExportEdge) × (edges_at node.edge_count trie node.edges ≡ Some (edges, end))
    × AreBranches image trie names parent edges branches)

-- What the names that end say

-- the export of the image itself that an export is
abbrev pub of_target : ℕ → Target → Option ImageExport
of_target flags (target.Address address None) = Some (record { flags = flags; address = address })
of_target flags other = None

abbrev pub of_export : Export → Option ImageExport
of_export export = if is_absolute export.flags then None else of_target export.flags export.target

-- in a terminal part, if a name ends there
abbrev pub image_export : List ℕ → Span → Option ImageExport
image_export trie terminal =
    if nat_lt 0 terminal.len then option_and_then (λ e. of_export e.0) (export_in trie terminal) else None

abbrev pub IsUnlikeExport : List ℕ → Option ℕ → ImageExport → ℕ → Type 0
IsUnlikeExport image base export place = IsUnlike base export.flags export.address (symbol_at image place)

-- a name of the branch that has no more bytes, and whose symbol, at the place, says something else than an export
abbrev pub EndsUnlike : List ℕ → List Named → Branch → Option ℕ → ImageExport → ℕ → Type 0
EndsUnlike image names branch base export place =
    (k : ℕ) × IsOfBranch branch k × ((named_at names k).name.len ≡ branch.depth) × ((named_at names k).place ≡ place)
    × IsUnlikeExport image base export place

-- than the export of a terminal part
abbrev pub EndsUnlikeTerminal : List ℕ → List ℕ → List Named → Branch → Option ℕ → Span → ℕ → Type 0
EndsUnlikeTerminal image trie names branch base terminal place =
    IsSomeAnd (image_export trie terminal) (λ export. EndsUnlike image names branch base export place)

-- What is looked for

-- a path from a node on spells the bytes, and ends where an export says something else than the symbol at the place
abbrev pub LeadsToUnlike : List ℕ → List ℕ → Option ℕ → ℕ → List ℕ → ℕ → Type 0
LeadsToUnlike image trie base from bytes place =
    (path : List ExportEdge) × (end : ℕ) × IsPath trie from path end × (spelled trie path ≡ bytes)
    × ((node : Node) × (node_at trie end ≡ Some node)
    × IsSomeAnd (image_export trie node.terminal) (λ export. IsUnlikeExport image base export place))

-- a name leads there from the root
abbrev pub IsUnlikeAt : List ℕ → List ℕ → List Named → Option ℕ → ℕ → Type 0
IsUnlikeAt image trie names base place =
    (k : ℕ) × (k < length names) × ((named_at names k).place ≡ place)
    × LeadsToUnlike image trie base 0 (text_at image names k) place
