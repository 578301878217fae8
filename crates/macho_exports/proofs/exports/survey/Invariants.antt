use Rattle.macho_exports.specs.ExportNodes.{waiting_places}
use Rattle.macho_exports.specs.Exports.{AreDestinations}
use Rattle.macho_exports.proofs.ExportSurveys.{IsWalkedTo}
use Rattle.macho_exports.proofs.exports.survey.Given as goal

-- the nodes that were met are judged, and the walk goes on with those that wait
abbrev pub invariant-loop-place : goal.invariant-loop-place
invariant-loop-place l = record {
  destinations : AreDestinations l.image l.destinations;
  walked : IsWalkedTo l.image l.trie.bytes.now l.left (waiting_places l.waiting) l.found;
}

abbrev pub decreases-loop-place : goal.decreases-loop-place
decreases-loop-place l = l.left
