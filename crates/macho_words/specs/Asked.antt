-- What the words ask of a program.
use Rattle.std.specs.Prelude.{ℕ, List, [], ◌∷◌, Result, Ok, Err, ⊤, ◌≡◌}
use Rattle.std.specs.String.{string_bytes}
use Rattle.clap.specs.Words.{Kinds}
use Rattle.macho_words.specs.declared.task.Question.{Question}
use Rattle.macho_words.specs.declared.task.Task.{Task}
use Rattle.macho_words.specs.declared.task.Task.TheVariants.{Show, Ask}
use Rattle.macho_words.specs.declared.words.WordFault.{WordFault}
use Rattle.macho_words.specs.declared.words.WordFault.TheVariants.{Usage, Memory}

-- what is asked for: a text of the program's own, or the answer to a question about the file with a name. `J` is who judges it
pub data Asked (J : Type 0) : Type 0 where
  shows : List ℕ → Asked J
  asks : List ℕ → Question J → Asked J

abbrev pub asked_by : {J : Type 0} → Task J → Asked J
asked_by (Show text) = shows text.now
asked_by (Ask file question) = asks (string_bytes file) question

-- what is asked for, where `clap` finds these faults in the words
abbrev pub asked_unless : {J : Type 0} → Kinds → Result (Asked J) WordFault → Result (Asked J) WordFault
asked_unless [] asked = asked
asked_unless (fault ∷ faults) asked = Err Usage

-- the fault is why the words ask for nothing, or memory ran out
abbrev pub AnswersFault : {J : Type 0} → WordFault → Result (Asked J) WordFault → Type 0
AnswersFault Memory answer = ⊤
AnswersFault fault answer = answer ≡ Err fault

-- the answer is what is asked, or memory ran out
abbrev pub Answers : {J : Type 0} → Result (Task J) WordFault → Result (Asked J) WordFault → Type 0
Answers (Ok task) answer = answer ≡ Ok (asked_by task)
Answers (Err fault) answer = AnswersFault fault answer
