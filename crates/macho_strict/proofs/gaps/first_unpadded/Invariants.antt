use Rattle.std.proofs.Common.{ℕ, ◌-◌, ◌≤◌, ◌<◌}
use Rattle.macho_fields.specs.Bytes.{bytes_of}
use Rattle.macho_strict.specs.Gaps.{IsUnpadded}
use Rattle.macho_strict.proofs.gaps.first_unpadded.Given as goal

-- none of the places that were passed has such a byte
abbrev pub invariant-loop-start : goal.invariant-loop-start
invariant-loop-start l = record {
  after : l.initial.start ≤ l.start;
  none : (place : ℕ) → l.initial.start ≤ place → place < l.start → ¬ IsUnpadded l.cpu l.code (bytes_of l.bytes) place;
}

abbrev pub decreases-loop-start : goal.decreases-loop-start
decreases-loop-start l = l.end - l.start
