-- What the words ask of macho-verify, from what `clap` says of its matches.
use Rattle.std.proofs.Common.{◌≡◌, List, [], Result}
use Rattle.clap.specs.Words.{Kinds, Row}
use Rattle.macho_words.specs.Asked.{Answers, asked_unless}
use Rattle.macho_words.specs.declared.task.Task.{Task}
use Rattle.macho_words.specs.declared.words.WordFault.{WordFault}
use Rattle.macho_verify.specs.Words.{asked_in}
use Rattle.macho_verify.specs.declared.judge.ProfileRules.{ProfileRules}

-- the answer to words that `clap` takes
pub answered : (faults : Kinds) (rows known : List Row) (r : Result (Task ProfileRules) WordFault) → faults ≡ [] → rows ≡ known → Answers r (asked_in rows)
    → Answers r (asked_unless faults (asked_in known))
answered faults rows known r none same answers = rw (none, ← same) answers
