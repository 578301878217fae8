use Rattle.std.proofs.Common.{◌≡◌, ◌-◌}
use Rattle.macho_alike.proofs.TrieBranches.{AreRead}
use Rattle.macho_alike.proofs.trie.read_branches.Given as goal

-- the branches along the edges that were read are there
abbrev pub invariant-loop : goal.invariant-loop
invariant-loop l = record {
  count : l.end ≡ l.fn.node.edge_count;
  read : AreRead l.image.bytes.now l.trie.bytes.now l.names l.fn.parent l.fn.node (l.end - l.counter) l.place l.branches.items;
}
