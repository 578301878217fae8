use Rattle.std.proofs.Common.{◌≡◌, ℕ, ◌-◌, ◌≤◌, ◌<◌, true}
use Rattle.macho_fields.specs.Bytes.{bytes_of}
use Rattle.macho_strict.specs.Nops.{is_nop}
use Rattle.macho_strict.proofs.gaps.nops_end.Given as goal

-- the places that were passed have NOPs
abbrev pub invariant-loop-place : goal.invariant-loop-place
invariant-loop-place l = record {
  after : l.start ≤ l.place;
  before : l.place ≤ l.end;
  nops : (place : ℕ) → l.start ≤ place → place < l.place → is_nop l.cpu (bytes_of l.bytes) place ≡ true;
}

abbrev pub decreases-loop-place : goal.decreases-loop-place
decreases-loop-place l = l.end - l.place
