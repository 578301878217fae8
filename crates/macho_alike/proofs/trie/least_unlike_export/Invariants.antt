use Rattle.macho_alike.proofs.TrieEnds.{IsLeastUpTo}
use Rattle.macho_alike.proofs.trie.least_unlike_export.Given as goal

-- the names before this one end here
abbrev pub invariant-loop-index : goal.invariant-loop-index
invariant-loop-index l = IsLeastUpTo l.image.bytes.now l.names l.branch l.base l.export l.index l.least
