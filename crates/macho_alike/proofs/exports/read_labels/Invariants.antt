use Rattle.std.proofs.Common.{◌≡◌, ◌-◌}
use Rattle.macho_alike.specs.Labels.{texts}
use Rattle.macho_alike.proofs.Labels.{read_from}
use Rattle.macho_alike.proofs.exports.read_labels.Given as goal

-- the edges that are left have the other labels
abbrev pub invariant-loop : goal.invariant-loop
invariant-loop l = record {
  count : l.end ≡ l.fn.node.edge_count;
  same : read_from (l.end - l.counter) l.trie.bytes.now l.place (texts l.labels.items) ≡ read_from l.end l.trie.bytes.now l.fn.node.edges (texts l.fn.labels.items);
}
