use Rattle.macho_fat.specs.TableWalk.{AreNotes}
use Rattle.macho_fat.proofs.survey.EntrySurvey.of.Given as goal

-- the notes are about the entries before this one
abbrev pub invariant-loop-k : goal.invariant-loop-k
invariant-loop-k l = AreNotes l.table l.k l.notes
