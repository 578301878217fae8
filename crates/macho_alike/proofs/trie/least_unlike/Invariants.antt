use Rattle.std.proofs.Common.{reverse}
use Rattle.macho_alike.proofs.TrieWalks.{IsWalkedTo}
use Rattle.macho_alike.proofs.trie.least_unlike.Given as goal

-- each name that is looked for is noted, or a branch that waits has it
abbrev pub invariant-loop-branch : goal.invariant-loop-branch
invariant-loop-branch l = IsWalkedTo l.image.bytes.now l.trie.bytes.now l.names l.base l.left (reverse l.waiting.items) l.least

abbrev pub decreases-loop-branch : goal.decreases-loop-branch
decreases-loop-branch l = l.left
