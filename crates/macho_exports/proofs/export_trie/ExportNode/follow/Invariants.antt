use Rattle.std.proofs.Common.{◌≡◌, ◌-◌, ◌≤◌, length, None, IfSome}
use Rattle.macho_exports.proofs.ExportTries.{follow_from}
use Rattle.macho_exports.proofs.export_trie.ExportNode.follow.Given as goal

-- the edge that leads on is the edge that was found, or else one among the edges that are left
abbrev pub invariant-loop : goal.invariant-loop
invariant-loop l = record {
  count : l.end ≡ l.fn.self.edge_count;
  same : follow_from (l.end - l.counter) l.trie.bytes.now l.place l.name l.first ≡ follow_from l.end l.trie.bytes.now l.fn.self.edges l.name None;
  fits : IfSome l.first (λ edge. edge.label.len ≤ length l.name);
}
