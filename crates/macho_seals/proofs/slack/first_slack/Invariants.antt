use Rattle.std.proofs.Common.{◌≡◌, ◌+◌}
use Rattle.macho_seals.proofs.Slacks.{NoneBefore}
use Rattle.macho_signature.specs.Superblobs.{least_offset}
use Rattle.macho_seals.proofs.slack.first_slack.Given as goal

-- the blobs before it end there, and no slack is before that
abbrev pub invariant-loop-index : goal.invariant-loop-index
invariant-loop-index l = record {
  end : l.end ≡ l.start + least_offset l.signature.bytes.now l.index;
  none : NoneBefore l.image.bytes.now l.start l.signature.bytes.now l.end;
}
