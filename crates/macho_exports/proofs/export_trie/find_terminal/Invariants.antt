use Rattle.std.proofs.Common.{◌≡◌, ◌-◌, length}
use Rattle.macho_exports.specs.ExportTrie.{terminal_from, find_terminal}
use Rattle.macho_exports.proofs.export_trie.find_terminal.Given as goal

-- the way of the name leads on from the node, with what is left
abbrev pub invariant-loop : goal.invariant-loop
invariant-loop l = record {
  most : l.end ≡ length l.trie.bytes.now;
  same : terminal_from (l.end - l.counter) l.trie.bytes.now l.left l.place l.rest ≡ find_terminal l.trie.bytes.now l.fn.name;
}
