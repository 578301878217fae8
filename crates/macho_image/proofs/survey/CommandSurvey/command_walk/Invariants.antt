use Rattle.std.proofs.Common.{◌≡◌, ◌≤◌}
use Rattle.macho_fields.specs.Bytes.{bytes_of}
use Rattle.macho_image.specs.Walk.{HasPassed, IsAt}
use Rattle.macho_image.proofs.survey.CommandSurvey.command_walk.Given as goal

-- the survey has passed the commands before this place
abbrev pub invariant-loop-index : goal.invariant-loop-index
invariant-loop-index l = record {
  within : l.place ≤ l.end;
  at : IsAt (bytes_of l.fn.self.candidate.bytes) l.index l.place;
  same : l.self.candidate ≡ l.fn.self.candidate;
  passed : HasPassed l.self l.index;
}
