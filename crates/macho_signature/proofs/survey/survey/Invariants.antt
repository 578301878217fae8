use Rattle.std.proofs.Common.{◌≡◌, ◌<◌, ℕ}
use Rattle.macho_signature.specs.Superblobs.{least_offset, IsBadBlob}
use Rattle.macho_signature.specs.Surveys.{AreDirectories}
use Rattle.macho_signature.proofs.survey.survey.Given as goal

-- the blobs before it are not bad, and the code directories among them are judged
abbrev pub invariant-loop-index : goal.invariant-loop-index
invariant-loop-index l = record {
  least : l.least ≡ least_offset l.signature.bytes.now l.index;
  blobs : (k : ℕ) → k < l.index → ¬ IsBadBlob l.signature.bytes.now k;
  directories : AreDirectories l.start l.signature.bytes.now l.index l.directories;
}
