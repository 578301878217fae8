use Rattle.std.proofs.Common.{◌-◌}
use Rattle.macho_alike.proofs.TrieBounds.{IsSearched}
use Rattle.macho_alike.proofs.trie.bound.Given as goal

-- the index is one from low up to high
abbrev pub invariant-loop-low : goal.invariant-loop-low
invariant-loop-low l = IsSearched l.image.bytes.now l.names l.branch l.label l.over l.low l.high

abbrev pub decreases-loop-low : goal.decreases-loop-low
decreases-loop-low l = l.high - l.low
