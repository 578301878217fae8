-- What the words after the program's name ask for, by what `clap` says of a simple command.
use Rattle.std.specs.Prelude.{ℕ, List, [], ◌∷◌, true, Option, Some, None, Result, Ok, Err, ◌≡◌, if◌then◌else◌, codes}
use Rattle.std.specs.Str.{bytes_eq}
use Rattle.std.specs.String.{string_bytes}
use Rattle.clap.specs.Words.{App, Row, Rule, Text, fault_of, first_of, new_app, new_rule, subcommand_of, with_rule, with_subcommand}
use Rattle.clap.specs.Simple.{on_top}
use Rattle.clap.specs.declared.error.kind.ErrorKind.{ErrorKind}
use Rattle.clap.specs.declared.error.kind.ErrorKind.TheVariants.{OutOfMemory}
use Rattle.macho_words.specs.Number.{word_number}
use Rattle.macho_fields.specs.declared.rule.LayoutRules.{LayoutRules}
use Rattle.macho_words.specs.Asked.{AnswersFault, Asked, asked_unless, asks}
use Rattle.macho_words.specs.declared.task.Question.TheVariants as question
use Rattle.macho_words.specs.declared.words.Request.{Request}
use Rattle.macho_words.specs.declared.words.Request.TheVariants.{Check, Where}
use Rattle.macho_words.specs.declared.words.WordFault.{WordFault}
use Rattle.macho_words.specs.declared.words.WordFault.TheVariants.{Usage, BadNumber, Memory}

-- a positional argument that must be there
abbrev pub required : Text → Rule
required id = record (new_rule id) { required = true }

-- `check FILE`
abbrev pub check_command : App
check_command = with_rule (new_app (codes "check")) (required (codes "FILE"))

-- `where FILE SLICE ADDRESS`
abbrev pub where_command : App
where_command = with_rule (with_rule (with_rule (new_app (codes "where")) (required (codes "FILE")))
    (required (codes "SLICE"))) (required (codes "ADDRESS"))

-- a command without a program's name first, and without clap's own help
abbrev pub bare_command : Text → App
bare_command name = on_top (λ s. record s {
  no_binary_name = true;
  disable_help_flag = true;
  disable_help_subcommand = true;
}) (new_app name)

-- the command of macho-check: `check FILE` or `where FILE SLICE ADDRESS`, which must have one of them
abbrev pub check_or_where : App
check_or_where = with_subcommand (with_subcommand
    (on_top (λ s. record s { subcommand_required = true }) (bare_command (codes "macho-check")))
    check_command.top) where_command.top

-- what is asked for: a verdict of the layout on a file, or what is at an address of a slice of it
abbrev pub AskedOfCheck : Type 0
AskedOfCheck = Asked LayoutRules

abbrev pub verdict : Text → AskedOfCheck
verdict file = asks file (question.Verdict (record {}))

abbrev pub place : Text → ℕ → ℕ → AskedOfCheck
place file slice address = asks file (question.Address slice address)

abbrev pub requested_by : Request → AskedOfCheck
requested_by (Check file) = verdict (string_bytes file)
requested_by (Where file slice address) = place (string_bytes file) slice address

-- what `check` asks for, by the text of FILE
abbrev pub verdict_asked : Option Text → Result AskedOfCheck WordFault
verdict_asked (Some file) = Ok (verdict file)
verdict_asked None = Err Usage

abbrev pub check_asked : List Row → Result AskedOfCheck WordFault
check_asked rows = verdict_asked (first_of (codes "FILE") rows)

-- what `where` asks for, by the text of FILE and the numbers of SLICE and ADDRESS
abbrev pub place_numbered : Text → Option ℕ → Option ℕ → Result AskedOfCheck WordFault
place_numbered file (Some slice) (Some address) = Ok (place file slice address)
place_numbered file _ _ = Err BadNumber

-- the same, by the three texts
abbrev pub place_asked : Option Text → Option Text → Option Text → Result AskedOfCheck WordFault
place_asked (Some file) (Some slice) (Some address) =
    place_numbered file (word_number slice) (word_number address)
place_asked _ _ _ = Err Usage

abbrev pub where_asked : List Row → Result AskedOfCheck WordFault
where_asked rows = place_asked (first_of (codes "FILE") rows) (first_of (codes "SLICE") rows)
    (first_of (codes "ADDRESS") rows)

-- what a subcommand asks for, by its name and the matches of its arguments
abbrev pub asked_in : Text → List Row → Result AskedOfCheck WordFault
asked_in name rows = if bytes_eq name (codes "check") then check_asked rows
    else (if bytes_eq name (codes "where") then where_asked rows else Err Usage)

abbrev pub asked_under : Option (Text × List Row) → Result AskedOfCheck WordFault
asked_under (Some subcommand) = asked_in subcommand.0 subcommand.1
asked_under None = Err Usage

-- what the words ask of macho-check, or why they ask for nothing
abbrev pub asked_of : List Text → Result AskedOfCheck WordFault
asked_of [] = Ok (verdict (codes "-"))
asked_of (word ∷ words) =
    asked_unless (fault_of check_or_where (word ∷ words)) (asked_under (subcommand_of check_or_where (word ∷ words)))

-- the answer is what is asked, or memory ran out
abbrev pub AnswersRequest : Result Request WordFault → Result AskedOfCheck WordFault → Type 0
AnswersRequest (Ok request) answer = answer ≡ Ok (requested_by request)
AnswersRequest (Err fault) answer = AnswersFault fault answer

-- the fault for an error of `clap` of this kind
abbrev pub word_fault_of : ErrorKind → WordFault
word_fault_of OutOfMemory = Memory
word_fault_of _ = Usage
