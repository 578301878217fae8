-- What the words after the name of macho-verify ask for, by what `clap` says of a simple command.
use Rattle.std.specs.Prelude.{ℕ, List, [], ◌∷◌, ◌++◌, map, Option, Some, None, Result, Ok, Err, if◌then◌else◌, codes}
use Rattle.std.specs.List.{join_with_byte}
use Rattle.std.specs.Str.{bytes_eq}
use Rattle.clap.specs.Words.{App, Row, Text, fault_of, first_of, matches_of, with_rule}
use Rattle.macho_fields.specs.RuleList.{all_profiles, profile_name, profile_named}
use Rattle.macho_fields.specs.declared.rule.Profile.{Profile}
use Rattle.macho_words.specs.Asked.{Asked, asked_unless, asks, shows}
use Rattle.macho_words.specs.Words.{bare_command, required}
use Rattle.macho_words.specs.declared.task.Question.TheVariants.{Verdict}
use Rattle.macho_words.specs.declared.words.WordFault.{WordFault}
use Rattle.macho_words.specs.declared.words.WordFault.TheVariants.{Usage}
use Rattle.macho_verify.specs.declared.judge.ProfileRules.{ProfileRules}
use Rattle.macho_verify.specs.declared.words.TheConstants.{HELP, VERSION}

-- what the words may be: the name of a profile, and FILE
abbrev pub usage : List ℕ
usage = codes " " ++ (join_with_byte 124 (map profile_name all_profiles) ++ codes " FILE")

-- the command: `PROFILE FILE`
abbrev pub profile_and_file : App
profile_and_file =
    with_rule (with_rule (bare_command (codes "macho-verify")) (required (codes "PROFILE")))
    (required (codes "FILE"))

-- what is asked for, by the profile that is named and the text of FILE
abbrev pub verdict_by : Option Profile → Text → Result (Asked ProfileRules) WordFault
verdict_by (Some profile) file = Ok (asks file (Verdict (record { profile = profile })))
verdict_by None file = Err Usage

-- the same, by the texts of PROFILE and FILE
abbrev pub asked_by_texts : Option Text → Option Text → Result (Asked ProfileRules) WordFault
asked_by_texts (Some name) (Some file) = verdict_by (profile_named name) file
asked_by_texts _ _ = Err Usage

abbrev pub asked_in : List Row → Result (Asked ProfileRules) WordFault
asked_in rows = asked_by_texts (first_of (codes "PROFILE") rows) (first_of (codes "FILE") rows)

-- which verdict the words ask for, or why they ask for none
abbrev pub verdict_asked : List Text → Result (Asked ProfileRules) WordFault
verdict_asked words =
    asked_unless (fault_of profile_and_file words) (asked_in (matches_of profile_and_file words))

-- the text of its own that macho-verify shows where this is the first word
abbrev pub own_text : Text → Option Text
own_text word = if bytes_eq word (codes "--help") then Some HELP.now
    else (if bytes_eq word (codes "--version") then Some VERSION.now else None)

abbrev pub shown_or : Option Text → Result (Asked ProfileRules) WordFault → Result (Asked ProfileRules) WordFault
shown_or (Some text) asked = Ok (shows text)
shown_or None asked = asked

-- what the words ask of macho-verify: a text of its own where the first of them says so, and otherwise a verdict
abbrev pub asked_of : List Text → Result (Asked ProfileRules) WordFault
asked_of [] = verdict_asked []
asked_of (word ∷ words) = shown_or (own_text word) (verdict_asked (word ∷ words))
