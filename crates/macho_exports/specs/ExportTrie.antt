-- The export trie: the names that an image exports. A place is an offset in the table of the trie, and the root
-- is at 0. Numbers are ULEB128. (mach-o/loader.h: LC_DYLD_EXPORTS_TRIE, dyld_info_command,
-- EXPORT_SYMBOL_FLAGS_..)
use Rattle.std.specs.Prelude.{ℕ, zero, suc, ◌+◌, ◌-◌, ◌==◌, ◌&&◌, nat_lt, nat_eq, List, [], ◌∷◌, length, take, drop, find, slice_get, Option, Some, None, Bool, bit_and, if◌then◌else◌}
use Rattle.std.specs.List.{starts_with}
use Rattle.std.specs.Option.{option_map, option_and_then}
use Rattle.macho_fields.specs.Field.{part, string_from}
use Rattle.macho_spans.specs.declared.span.Span.{Span}
use Rattle.macho_tables.specs.Numbers.{unsigned_at}
use Rattle.macho_exports.specs.declared.export_trie.Export.{Export}
use Rattle.macho_exports.specs.declared.export_trie.ExportEdge.{ExportEdge}
use Rattle.macho_exports.specs.declared.export_trie.ExportNode.{ExportNode}
use Rattle.macho_exports.specs.declared.export_trie.Target.{Target}
use Rattle.macho_exports.specs.declared.export_trie.Target.TheVariants as target

-- The flags of an export that say which kind a symbol is of, and the kind whose address does not count
-- from the base of the image
abbrev pub EXPORT_SYMBOL_FLAGS_KIND_MASK : ℕ
EXPORT_SYMBOL_FLAGS_KIND_MASK = 0x03

abbrev pub EXPORT_SYMBOL_FLAGS_KIND_ABSOLUTE : ℕ
EXPORT_SYMBOL_FLAGS_KIND_ABSOLUTE = 0x02

-- a symbol of another library
abbrev pub EXPORT_SYMBOL_FLAGS_REEXPORT : ℕ
EXPORT_SYMBOL_FLAGS_REEXPORT = 0x08

-- a symbol whose address a function of the image finds
abbrev pub EXPORT_SYMBOL_FLAGS_STUB_AND_RESOLVER : ℕ
EXPORT_SYMBOL_FLAGS_STUB_AND_RESOLVER = 0x10

-- A name at a place: the bytes up to the first zero byte, as a span, and the place past that byte. It is None
-- where no zero byte follows.
unfoldable pub name_at : List ℕ → ℕ → Option (Span × ℕ)
name_at bytes place =
    let zero = place + length (string_from place bytes) in
    if nat_lt zero (length bytes)
    then Some (record { start = place; len = zero - place }, zero + 1) else None

-- The nodes

-- An edge at a place, and the place past it: its label, which is a name, and the place of its child.
unfoldable pub edge_at : List ℕ → ℕ → Option (ExportEdge × ℕ)
edge_at trie place =
    option_and_then (λ label. option_map (λ child. (record { label = label.0; child = child.0 }, child.1))
    (unsigned_at trie label.1)) (name_at trie place)

-- so many edges from a place on, one after another, and the place past the last
abbrev pub edges_at : ℕ → List ℕ → ℕ → Option (List ExportEdge × ℕ)
edges_at zero trie place = Some ([], place)
edges_at (suc count) trie place =
    option_and_then (λ edge. option_map (λ others. (edge.0 ∷ others.0, others.1))
    (edges_at count trie edge.1)) (edge_at trie place)

-- What a node at a place begins with: the size of its terminal part, this part, which is empty where no name
-- ends, and one byte with the number of its edges, which follow.
unfoldable pub head_at : List ℕ → ℕ → Option ExportNode
head_at trie place =
    option_and_then (λ size. let count = size.1 + size.0 in
    option_map (λ edge_count. record {
      terminal = record { start = size.1; len = size.0 };
      edge_count = edge_count;
      edges = count + 1;
    }) (slice_get trie count)) (unsigned_at trie place)

-- a whole node, up to the place past its last edge
pub record Node : Type 0 where
  pub terminal : Span
  pub edges : List ExportEdge
  pub end : ℕ

-- the node at a place, and none where it does not end in the table
unfoldable pub node_at : List ℕ → ℕ → Option Node
node_at trie place =
    option_and_then (λ (head : ExportNode).
    option_map (λ edges. record { terminal = head.terminal; edges = edges.0; end = edges.1 })
    (edges_at head.edge_count trie head.edges)) (head_at trie place)

-- The way of a name

-- whether the label of an edge begins the name
abbrev pub begins_with : List ℕ → List ℕ → ExportEdge → Bool
begins_with trie name edge = starts_with nat_eq name (part edge.label.start edge.label.len trie)

-- whether a name ends at a node
abbrev pub ends : List ℕ → Node → Bool
ends name node = (length name == 0) && nat_lt 0 node.terminal.len

-- The terminal part to which a name leads from the node at a place. It is the node's, if the name ends
-- there. Otherwise the first edge whose label begins the name leads on, with the rest of the name. All nodes on
-- the way, each as often as it is met, may have `left` bytes. There may be `most` of them, which is not a bound of
-- its own where it is the same number: each node has two bytes or more.
unfoldable pub terminal_from : ℕ → List ℕ → ℕ → ℕ → List ℕ → Option Span
terminal_from zero trie left place name = None
terminal_from (suc most) trie left place name =
    option_and_then (λ (node : Node).
    if nat_lt left (node.end - place) then None
    else (if ends name node then Some node.terminal
    else option_and_then (λ (edge : ExportEdge).
    terminal_from most trie (left - (node.end - place)) edge.child (drop edge.label.len name))
    (find (begins_with trie name) node.edges))) (node_at trie place)

-- from the root on, on a way whose nodes have no more bytes than the table
unfoldable pub find_terminal : List ℕ → List ℕ → Option Span
find_terminal trie name = terminal_from (length trie) trie (length trie) 0 name

-- What a terminal part says. Each part is None where a number or a name does not end in the bytes.

-- an address, with the address of a resolver if the flags say so
unfoldable pub address_at : ℕ → List ℕ → ℕ → Option (Target × ℕ)
address_at flags bytes place =
    option_and_then (λ address.
    if bit_and flags EXPORT_SYMBOL_FLAGS_STUB_AND_RESOLVER == 0
    then Some (target.Address address.0 None, address.1)
    else option_map (λ resolver. (target.Address address.0 (Some resolver.0), resolver.1))
    (unsigned_at bytes address.1)) (unsigned_at bytes place)

-- the ordinal of a library, and a name there
unfoldable pub reexport_at : List ℕ → ℕ → Option (Target × ℕ)
reexport_at bytes place =
    option_and_then (λ ordinal. option_map (λ name. (target.Reexport ordinal.0 name.0, name.1))
    (name_at bytes ordinal.1)) (unsigned_at bytes place)

-- the flags, and what follows them
unfoldable pub export_at : List ℕ → ℕ → Option (Export × ℕ)
export_at bytes place =
    option_and_then (λ flags. option_map (λ t. (record { flags = flags.0; target = t.0 }, t.1))
    (if bit_and flags.0 EXPORT_SYMBOL_FLAGS_REEXPORT == 0 then address_at flags.0 bytes flags.1
    else reexport_at bytes flags.1)) (unsigned_at bytes place)

-- The export in a terminal part, and the place past it. What it takes ends in the part.
unfoldable pub export_in : List ℕ → Span → Option (Export × ℕ)
export_in trie terminal = export_at (take (terminal.start + terminal.len) trie) terminal.start

-- the export with a name
unfoldable pub find_export : List ℕ → List ℕ → Option Export
find_export trie name =
    option_and_then (λ terminal. option_map (λ e. e.0) (export_in trie terminal)) (find_terminal trie name)
