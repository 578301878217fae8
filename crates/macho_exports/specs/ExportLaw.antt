-- What the export trie of an image promises that breaks none of its rules.
use Rattle.std.specs.Prelude.{◌≡◌, ℕ, ◌+◌, ◌-◌, ◌^◌, ◌≤◌, ◌<◌, ◌⊎◌, List, [], ◌∷◌, length, Contains, Option, Some, IfSome, true}
use Rattle.std.specs.Option.{option_map_or}
use Rattle.macho_fields.specs.Field.{part}
use Rattle.macho_fields.specs.Image.{commands_of}
use Rattle.macho_fields.specs.Segment.{base_of}
use Rattle.macho_fields.specs.Universal.{OfEachImage}
use Rattle.macho_spans.specs.declared.span.Span.{Span}
use Rattle.macho_exports.specs.ExportTrie.{Node, node_at, terminal_from, find_terminal}
use Rattle.macho_exports.specs.ExportWalk.{Met, met_nodes, children, whole_export}
use Rattle.macho_exports.specs.Exports.{is_absolute, export_table}
use Rattle.macho_tables.specs.MappedAddresses.{IsMapped}
use Rattle.macho_tables.specs.Limits.{library_count}
use Rattle.macho_exports.specs.declared.export_trie.Export.{Export}
use Rattle.macho_exports.specs.declared.export_trie.Target.{Target}
use Rattle.macho_exports.specs.declared.export_trie.Target.TheVariants as target

-- segments are mapped to the address, and to the address of the resolver if there is one
abbrev pub AreMapped : List ℕ → ℕ → ℕ → Option ℕ → Type 0
AreMapped image base address resolver =
    IsMapped image (base + address) × IfSome resolver (λ r. IsMapped image (base + r))

-- What it leads to is there: a library, or addresses of the image. An absolute address is neither.
abbrev pub IsThere : List ℕ → Export → Target → Type 0
IsThere image export (target.Reexport ordinal name) =
    (ordinal ≤ library_count image) ⊎ (2 ^ 64 - 3 ≤ ordinal)
IsThere image export (target.Address address resolver) =
    (is_absolute export.flags ≡ true)
    ⊎ ((base : ℕ) → base_of image (commands_of image) ≡ Some base → AreMapped image base address resolver)

-- a terminal part is an export that is read exactly to its end, and leads to what is there
abbrev pub IsSoundTerminal : List ℕ → List ℕ → Span → Type 0
IsSoundTerminal image trie terminal =
    (export : Export) × (whole_export trie terminal ≡ Some export) × IsThere image export export.target

-- Each node that is met ends in the table, and its terminal part is such an export, if it has one.
abbrev pub AreSoundNodes : List ℕ → List ℕ → Type 0
AreSoundNodes image trie =
    (met : Met) → Contains (met_nodes trie) met
    → (node : Node) × (node_at trie met.place ≡ Some node)
    × (0 < node.terminal.len → IsSoundTerminal image trie node.terminal)

-- A way from a place on: each later place is one to which an edge of the node at the one before leads. The nodes
-- that a look-up passes are such a way.
abbrev pub IsWay : List ℕ → ℕ → List ℕ → Type 0
IsWay trie place [] = Unit {0}
IsWay trie place (next ∷ way) =
    (node : Node) × (node_at trie place ≡ Some node) × Contains (children node) next × IsWay trie next way

-- the bytes of the node at a place, and of the nodes at several
abbrev pub node_bytes : List ℕ → ℕ → ℕ
node_bytes trie place = option_map_or (λ (node : Node). node.end - place) (node_at trie place) 0

abbrev pub way_bytes : List ℕ → List ℕ → ℕ
way_bytes trie [] = 0
way_bytes trie (place ∷ way) = node_bytes trie place + way_bytes trie way

-- No way from the root has more bytes than the table. So each one ends, since a node has a byte or more.
abbrev pub AreShortWays : List ℕ → Type 0
AreShortWays trie = (way : List ℕ) → IsWay trie 0 way → way_bytes trie (0 ∷ way) ≤ length trie

-- A look-up is not cut: with more steps, and where the nodes on its way may have more bytes, it finds the same.
abbrev pub IsNeverCut : List ℕ → Type 0
IsNeverCut trie =
    (most left : ℕ) (name : List ℕ) → length trie ≤ most → length trie ≤ left
    → terminal_from most trie left 0 name ≡ find_terminal trie name

-- the trie of the image is such
abbrev pub AreSoundExports : List ℕ → Type 0
AreSoundExports image =
    (table : Span) → export_table image ≡ Some table
    → AreSoundNodes image (part table.start table.len image) × AreShortWays (part table.start table.len image)
    × IsNeverCut (part table.start table.len image)

-- of a file: the export trie of each 64-bit slice is
abbrev pub HasSoundExports : List ℕ → Type 0
HasSoundExports = OfEachImage AreSoundExports
