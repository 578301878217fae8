-- A walk over the nodes of the export trie, and what the rules say of a node. A place is an offset in the table
-- of the trie. (mach-o/loader.h: LC_DYLD_EXPORTS_TRIE, dyld_info_command, EXPORT_SYMBOL_FLAGS_..)
use Rattle.std.specs.Prelude.{◌≡◌, ℕ, zero, suc, ◌+◌, ◌-◌, ◌≤◌, ◌<◌, ◌==◌, ◌&&◌, ◌||◌, not, nat_lt, List, [], ◌∷◌, ◌++◌, length, map, min, Contains, Option, Some, None, IsSomeAnd, Bool, bit_and, if◌then◌else◌}
use Rattle.std.specs.Option.{option_map_or, option_and_then}
use Rattle.macho_spans.specs.Span.{end_of}
use Rattle.macho_spans.specs.declared.span.Span.{Span}
use Rattle.macho_exports.specs.ExportTrie.{Node, node_at, export_in}
use Rattle.macho_exports.specs.declared.export_trie.Export.{Export}
use Rattle.macho_exports.specs.declared.export_trie.ExportEdge.{ExportEdge}
use Rattle.macho_fields.specs.declared.header.loader.TheConstants as flag

-- The walk

-- the places of the nodes to which the edges of a node lead, in their order
abbrev pub children : Node → List ℕ
children node = map (λ (edge : ExportEdge). edge.child) node.edges

-- a node that is met: its place, and how many bytes it and those that are met after it may have
pub record Met : Type 0 where
  pub place : ℕ
  pub left : ℕ

-- The nodes that are met, up to so many. Those whose places are in a list wait. The first of them is met, and
-- then its children wait before the others. The walk ends where none waits, at a node that does not end in the
-- table, and at one with more bytes than are left.
abbrev pub walk : ℕ → List ℕ → ℕ → List ℕ → List Met
walk zero trie left waiting = []
walk (suc most) trie left [] = []
walk (suc most) trie left (place ∷ waiting) =
    record { place = place; left = left }
    ∷ option_map_or (λ (node : Node).
    if nat_lt left (node.end - place) then []
    else walk most trie (left - (node.end - place)) (children node ++ waiting)) (node_at trie place) []

-- The nodes that are met from the root on, each as often as it is met. All together they may have as many bytes
-- as the table. Each has one or more.
abbrev pub met_nodes : List ℕ → List Met
met_nodes trie = walk (length trie + 1) trie (length trie) (0 ∷ [])

-- a node with P is among some that are met, and the place is what is reported of it
abbrev pub AtMet : (Met → ℕ) → (Met → Type 0) → List Met → ℕ → Type 0
AtMet place_of P nodes place = (met : Met) × Contains nodes met × (place_of met ≡ place) × P met

-- its own place, or the end of the table if it would be past that
abbrev pub place_or_end : List ℕ → Met → ℕ
place_or_end trie met = min met.place (length trie)

-- its own
abbrev pub own_place : Met → ℕ
own_place met = met.place

-- What the rules say of a node that is met

-- it does not end in the table
abbrev pub HasNoEnd : List ℕ → Met → Type 0
HasNoEnd trie met = node_at trie met.place ≡ None

-- it has more bytes than are left
abbrev pub PassesTable : List ℕ → Met → Type 0
PassesTable trie met = IsSomeAnd (node_at trie met.place) (λ node. met.left < node.end - met.place)

-- it has neither fault, and its terminal part has P
abbrev pub HasTerminal : List ℕ → (Span → Type 0) → Met → Type 0
HasTerminal trie P met =
    IsSomeAnd (node_at trie met.place) (λ node. (node.end - met.place ≤ met.left) × P node.terminal)

-- What they say of a terminal part

-- The flags have a meaning: no bit past 0x10 is set, the kind is regular, thread-local or absolute, and what
-- another library has, has no resolver here.
unfoldable pub have_meaning : ℕ → Bool
have_meaning flags =
    nat_lt flags 0x20 && not (bit_and flags flag.EXPORT_SYMBOL_FLAGS_KIND_MASK == 3)
    && (bit_and flags flag.EXPORT_SYMBOL_FLAGS_REEXPORT == 0
    || bit_and flags flag.EXPORT_SYMBOL_FLAGS_STUB_AND_RESOLVER == 0)

-- the export in a terminal part, and none where it does not end where the part ends, or its flags have no
-- meaning
unfoldable pub whole_export : List ℕ → Span → Option Export
whole_export trie terminal =
    option_and_then (λ (e : Export × ℕ). if e.1 == end_of terminal && have_meaning e.0.flags then Some e.0 else None)
    (export_in trie terminal)

-- the node has a terminal part, without such an export
abbrev pub IsBadTerminal : List ℕ → Span → Type 0
IsBadTerminal trie terminal = (0 < terminal.len) × (whole_export trie terminal ≡ None)

-- there is one, and it is such an export, with P
abbrev pub HasExport : List ℕ → (Export → Type 0) → Span → Type 0
HasExport trie P terminal = (0 < terminal.len) × IsSomeAnd (whole_export trie terminal) P
