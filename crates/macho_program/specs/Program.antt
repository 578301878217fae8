-- What the program finds, and what it writes of it.
use Rattle.std.specs.Prelude.{ℕ, List, drop, length, map, ⊤, Option, Some, None, Result, Ok, Err, IsOk, IsErr, IsOkAnd, IsErrOf, IsTrue, IfOk, IfErr, IfSome, OnOk, ◌^◌, ◌+◌, ◌≤◌, ◌<◌, ◌≡◌, ◌≢◌, ◌⊎◌, ◌↔◌, codes, if◌then◌else◌}
use Rattle.std.specs.Borrow.{Bor}
use Rattle.std.specs.Io.KnownBytes.{IsAtEnd}
use Rattle.std.specs.Str.{bytes_eq}
use Rattle.macho_text.specs.Stream.{TookAtMost, Wrote, WrotePrefix}
use Rattle.macho_text.specs.declared.stream.Input as input
use Rattle.macho_text.specs.declared.stream.Output as output
use Rattle.macho_text.specs.declared.stream.Flush as flush
use Rattle.macho_report.specs.Run.{WroteVerdict, WroteVerdictPrefix}
use Rattle.macho_report.specs.Where.{WroteWhere, WroteWherePrefix}
use Rattle.macho_report.specs.declared.address.WhereOutcome.TheVariants.{NoImage}
use Rattle.macho_report.specs.declared.judge.Judge as judge
use Rattle.macho_report.specs.declared.outcome.RunFault.TheVariants as run
use Rattle.macho_words.specs.Asked.{Asked, shows, asks, asked_by}
use Rattle.macho_words.specs.declared.task.Question.TheVariants as question
use Rattle.macho_words.specs.declared.task.Task.{Task}
use Rattle.macho_words.specs.declared.words.WordFault.{WordFault}
use Rattle.macho_words.specs.declared.words.WordFault.TheVariants as words
use Rattle.macho_program.specs.declared.program.Found.{Found}
use Rattle.macho_program.specs.declared.program.Found.TheVariants as kind
use Rattle.macho_program.specs.declared.program.ProgramFault.{ProgramFault}
use Rattle.macho_program.specs.declared.program.ProgramFault.TheVariants as program

-- the bytes that are asked about: the bytes of standard input where the name is `-`, and otherwise of the file
abbrev pub input_of : {J : Type 0} → Option (List ℕ) → (List ℕ → Option (List ℕ)) → Asked J → Option (List ℕ)
input_of standard files (shows text) = None
input_of standard files (asks name question) =
    if bytes_eq name (codes "-") then standard else files name

-- What was asked for was found of the input, which has at most 2^32 bytes, and exactly its text was written. A text of
-- the program's own was written as it is.
abbrev pub WroteFound : {J : Type 0} → judge.Ghosts J → Asked J → Option (List ℕ) → Found → Option (List ℕ) → Option (List ℕ) → Type 0
WroteFound j (shows text) input kind.Shown old new = Wrote old new text
WroteFound j (asks name (question.Verdict who)) input (kind.Check outcome) old new =
    WroteVerdict j who input (2 ^ 32) outcome old new
WroteFound j (asks name (question.Address slice address)) input (kind.Where outcome) old new =
    WroteWhere input (2 ^ 32) slice address outcome old new
WroteFound _ _ _ _ _ _ = ⊥

-- the same of a prefix of the text
abbrev pub WroteFoundPrefix : {J : Type 0} → judge.Ghosts J → Asked J → Option (List ℕ) → Option (List ℕ) → Option (List ℕ) → Type 0
WroteFoundPrefix j (shows text) input old new = WrotePrefix old new text
WroteFoundPrefix j (asks name (question.Verdict who)) input old new =
    WroteVerdictPrefix j who input (2 ^ 32) old new
WroteFoundPrefix j (asks name (question.Address slice address)) input old new =
    WroteWherePrefix input (2 ^ 32) slice address old new

-- what is asked for, or the fault of the words
abbrev pub with_program_fault : {J : Type 0} → Result (Asked J) WordFault → Result (Asked J) ProgramFault
with_program_fault (Ok request) = Ok request
with_program_fault (Err fault) = Err (program.Words fault)

-- What the words ask of a program, by what the words after the first ask for, which is how it was called. Where the system
-- does not hand them over, that is a failed read.
abbrev pub request_of : {J S : Type 0} → (List (List ℕ) → Result (Asked J) WordFault) → (S → List ℕ) → Option (Bor (List S)) → Result (Asked J) ProgramFault
request_of asked text None = Err (program.Run run.Read)
request_of asked text (Some words) = with_program_fault (asked (map text (drop 1 words.now)))

-- the answer is what is asked, or memory ran out
abbrev pub AnswersWords : {J : Type 0} → Result (Task J) ProgramFault → Result (Asked J) ProgramFault → Type 0
AnswersWords (Ok task) answer = answer ≡ Ok (asked_by task)
AnswersWords (Err (program.Words words.Memory)) answer = ⊤
AnswersWords (Err fault) answer = answer ≡ Err fault

-- the fault is the request's, or memory ran out, or there is a request and its run failed
abbrev pub IsFaultOf : {J : Type 0} → Result (Asked J) ProgramFault → ProgramFault → Type 0
IsFaultOf request (program.Words words.Memory) = ⊤
IsFaultOf request (program.Words fault) = request ≡ Err (program.Words fault)
IsFaultOf request (program.Run fault) = (request ≡ Err (program.Run fault)) ⊎ IsOk request

-- the file that is asked about is standard input
abbrev pub IsOfStandardInput : {J : Type 0} → Asked J → Type 0
IsOfStandardInput (shows text) = ⊥
IsOfStandardInput (asks name question) = name ≡ codes "-"

-- The program ended right: `end` and what became of both streams are right for what is asked.
-- `j` judges a check, a request asks about the file of `bytes`, and `Reads` holds where that file is the input.
pub record EndsRight {J R W : Type 0} (j : judge.Ghosts J) (i : input.Ghosts R) (o : output.Ghosts W) (f : flush.Ghosts W)
    (asked : Result (Asked J) ProgramFault) (bytes : Asked J → Option (List ℕ)) (Reads : Asked J → Type 0)
    (reader reader' : R) (writer writer' : W) (end : Result Found ProgramFault) : Type 0 where
  -- What is found is right for the file that is asked about, and exactly its text is written.
  pub found : IfOk end (λ what. IsOkAnd asked (λ request.
      WroteFound j request (bytes request) what (o.contents writer) (o.contents writer')))
  pub at_end : IfOk asked (λ request. Reads request → OnOk end (IsAtEnd (i.remaining reader')))
  pub flushed : IfOk end (λ what. what ≢ kind.Where NoImage → IsTrue (f.is_flushed writer'))
  pub no_image : end ≡ Ok (kind.Where NoImage) → writer' ≡ writer
  -- Each fault is about the words or of the run, and nothing is written except where a write failed.
  pub faults : IfErr end (IsFaultOf asked)
  pub read : IfOk asked (λ request. Reads request → end ≢ Err (program.Words words.Memory)
      → (IsErrOf end (program.Run run.Read) ↔ IsTrue (i.has_failed reader')))
  pub memory : IfOk asked (λ request. Reads request → IsErrOf end (program.Run run.Memory)
      → TookAtMost (2 ^ 32) (i.remaining reader) (i.remaining reader'))
  pub one_too_many : IfOk asked (λ request. Reads request → IsErrOf end (program.Run run.TooLong)
      → TookAtMost (2 ^ 32 + 1) (i.remaining reader) (i.remaining reader'))
  pub few_reads : IfOk asked (λ request. Reads request → i.reads reader' ≤ i.reads reader + 2 ^ 32 + 1)
  pub too_long : IsErrOf end (program.Run run.TooLong)
      → IsOkAnd asked (λ request. IfSome (bytes request) (λ all. 2 ^ 32 < length all))
  pub write : IsErrOf end (program.Run run.Write) → IsTrue (o.has_failed writer')
  pub prefix : IsErrOf end (program.Run run.Write) → IsOkAnd asked (λ request.
      WroteFoundPrefix j request (bytes request) (o.contents writer) (o.contents writer'))
  pub unwritten : IfErr end (λ fault. (fault ≡ program.Run run.Write) ⊎ (writer' ≡ writer))
  -- Where the input is not asked about, it is not read.
  pub unread : ¬ IsOkAnd asked Reads → reader' ≡ reader

-- A text of the program's own was written whole and flushed, or a write failed.
pub record ShowsRight {W : Type 0} (o : output.Ghosts W) (f : flush.Ghosts W) (text : List ℕ) (writer writer' : W) (end : Result Found ProgramFault) : Type 0 where
  pub found : IfOk end (λ what. (what ≡ kind.Shown) × Wrote (o.contents writer) (o.contents writer') text)
  pub flushed : OnOk end (IsTrue (f.is_flushed writer'))
  pub fault : IfErr end (λ fault. fault ≡ program.Run run.Write)
  pub write : IsErr end → IsTrue (o.has_failed writer')
  pub prefix : IsErr end → WrotePrefix (o.contents writer) (o.contents writer') text
