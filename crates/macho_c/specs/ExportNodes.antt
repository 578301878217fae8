-- The nodes of an export trie. An offset is one in the trie, and a place one in the file. (mach-o/loader.h:
-- LC_DYLD_EXPORTS_TRIE, dyld_info_command, EXPORT_SYMBOL_FLAGS_..)
use Rattle.std.specs.Prelude.{◌≡◌, ℕ, zero, suc, ◌+◌, ◌==◌, List, [], ◌∷◌, map, Option, Some, None, MatchOption, if◌then◌else◌}
use Rattle.std.specs.Option.{option_map, option_map_or}
use Rattle.macho_spans.specs.declared.span.Span.{Span}
use Rattle.macho_exports.specs.ExportTrie.{head_at, edge_at, export_in}
use Rattle.macho_exports.specs.declared.export_trie.Export.{Export}
use Rattle.macho_exports.specs.declared.export_trie.ExportEdge.{ExportEdge}
use Rattle.macho_exports.specs.declared.export_trie.ExportNode.{ExportNode}
use Rattle.macho_rows.specs.Cursor.{start}
use Rattle.macho_c.specs.Exports.{no_export, export_row}
use Rattle.macho_rows.specs.Spans.{part_or_none, span_at, span_of}
use Rattle.macho_c.specs.Status.{KESVUOT_OK, KESVUOT_NONE}
use Rattle.macho_rows.specs.declared.cursor.KesvuotCursor.{KesvuotCursor}
use Rattle.macho_c.specs.declared.export_nodes.KesvuotExportEdge.{KesvuotExportEdge}
use Rattle.macho_c.specs.declared.export_nodes.KesvuotExportNode.{KesvuotExportNode}
use Rattle.macho_rows.specs.declared.span.KesvuotSpan.{KesvuotSpan}

-- the bytes of a trie that lies in a file, and none where it ends past the file
abbrev pub trie_bytes : List ℕ → KesvuotSpan → List ℕ
trie_bytes file trie = part_or_none trie.offset trie.size file

-- The node, by what it begins with

-- the export in a terminal part, which has none if it is empty
abbrev pub terminal_export : List ℕ → Span → Option Export
terminal_export trie terminal =
    if terminal.len == 0 then None else option_map (λ e. e.0) (export_in trie terminal)

-- the cursor of the first edge
abbrev pub first_edge : ExportNode → KesvuotCursor
first_edge head = record start { place = head.edges; items = head.edge_count }

-- a node without an export, of a trie that begins at the place
abbrev pub bare_row : ℕ → List ℕ → ExportNode → KesvuotExportNode
bare_row place trie head = record {
  exported = no_export;
  terminal = span_of (place + head.terminal.start) (part_or_none head.terminal.start head.terminal.len trie);
  edges = first_edge head;
  has_export = 0;
  reserved = 0;
}

-- its row, with the export if its terminal part is one
abbrev pub node_row : ℕ → ℕ → List ℕ → ExportNode → KesvuotExportNode
node_row base place trie head =
    option_map_or (λ export. record (bare_row place trie head) {
      exported = export_row base place trie export;
      has_export = 1;
    }) (terminal_export trie head.terminal) (bare_row place trie head)

abbrev pub no_node : KesvuotExportNode
no_node = record { exported = no_export; terminal = span_at 0 0; edges = start; has_export = 0; reserved = 0 }

-- the answer on an offset
abbrev pub IsNode : ℕ → ℕ → List ℕ → ℕ → ℕ → KesvuotExportNode → Type 0
IsNode base place trie offset status node =
    MatchOption (head_at trie offset) ((status ≡ KESVUOT_NONE) × (node ≡ no_node))
    (λ head. (status ≡ KESVUOT_OK) × (node ≡ node_row base place trie head))

-- Edges

-- up to so many edges from an offset on, one after another, before the first that does not end in the trie
abbrev pub edges_from : ℕ → List ℕ → ℕ → List ExportEdge
edges_from zero trie offset = []
edges_from (suc count) trie offset =
    option_map_or (λ edge. edge.0 ∷ edges_from count trie edge.1) (edge_at trie offset) []

abbrev pub edge_row : ℕ → List ℕ → ExportEdge → KesvuotExportEdge
edge_row place trie edge = record {
  label = span_of (place + edge.label.start) (part_or_none edge.label.start edge.label.len trie);
  child = edge.child;
}

-- those that remain at a cursor
abbrev pub edges_left : ℕ → List ℕ → KesvuotCursor → List KesvuotExportEdge
edges_left place trie cursor = map (edge_row place trie) (edges_from cursor.items trie cursor.place)
