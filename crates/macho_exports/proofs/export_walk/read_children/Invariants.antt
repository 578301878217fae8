use Rattle.std.proofs.Common.{◌≡◌, ◌-◌}
use Rattle.macho_exports.proofs.ExportNodes.{read_from}
use Rattle.macho_exports.proofs.export_walk.read_children.Given as goal

-- the edges that are left lead to the others
abbrev pub invariant-loop : goal.invariant-loop
invariant-loop l = record {
  count : l.end ≡ l.fn.node.edge_count;
  same : read_from (l.end - l.counter) l.trie.bytes.now l.place l.children.items ≡ read_from l.end l.trie.bytes.now l.fn.node.edges l.fn.children.items;
}
