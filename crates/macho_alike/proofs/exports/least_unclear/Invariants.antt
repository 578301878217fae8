use Rattle.macho_exports.specs.ExportNodes.{waiting_places}
use Rattle.macho_alike.proofs.ExportWalks.{IsWalkedTo}
use Rattle.macho_alike.proofs.exports.least_unclear.Given as goal

-- the nodes that were met are judged, and the walk goes on with those that wait
abbrev pub invariant-loop-place : goal.invariant-loop-place
invariant-loop-place l = IsWalkedTo l.trie.bytes.now l.left (waiting_places l.waiting) l.least

abbrev pub decreases-loop-place : goal.decreases-loop-place
decreases-loop-place l = l.left
