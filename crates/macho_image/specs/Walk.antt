-- A walk over the commands of an image, and what it notes of them.
use Rattle.std.specs.Prelude.{◌≡◌, ℕ, ◌+◌, ◌-◌, ◌≤◌, ◌<◌, ◌==◌, List, []}
use Rattle.std.specs.Prelude.{length, map, filter, All, Bool, true, false, not, Contains, unwrap_or}
use Rattle.std.specs.Option.{option_map_or}
use Rattle.macho_fields.specs.Bytes.{bytes_of}
use Rattle.macho_fields.specs.Command.{IsShort, HasBadName, RepeatsEarlier}
use Rattle.macho_fields.specs.Image.{command_cmd, command_size, command_count, commands_end, IsGood, IsChain, places_from}
use Rattle.macho_fields.specs.FirstPlace.{IsFirstOf}
use Rattle.macho_fields.specs.LoadCommands.{structure_of, table_fields, unique_cmds}
use Rattle.macho_fields.specs.Rules.{BreaksImage}
use Rattle.macho_fields.specs.declared.header.loader.TheConstants as loader
use Rattle.macho_fields.specs.declared.load_command.Structure.{Structure}
use Rattle.macho_fields.specs.declared.rule.Rule.{Rule}
use Rattle.macho_image.specs.Command.{CommandView, first_with_cmd}
use Rattle.macho_image.specs.Library.{is_library}
use Rattle.macho_image.specs.Opened.{IsOpened}
use Rattle.macho_image.specs.declared.landmarks.CommandRange.{CommandRange}
use Rattle.macho_image.specs.declared.landmarks.Landmarks.{Landmarks}
use Rattle.macho_image.specs.declared.survey.CommandSurvey.{CommandSurvey}
use Rattle.macho_image.specs.declared.unique.UniquePlaces.{UniquePlaces}
use Rattle.macho_image.specs.declared.walk.Candidate.{Candidate}

-- What may be opened: where it breaks a rule, and what is noted of it

-- the bytes break the rule at the place, as an image of the architecture
abbrev pub breaks_of : Candidate → Rule → ℕ → Type 0
breaks_of candidate = BreaksImage (bytes_of candidate.bytes) candidate.arch

-- for each unique cmd, in their order, the place is where its first command is, and 0 where it has
-- none: no command is at 0
pub record AreFirst (image commands : List ℕ) (unique : UniquePlaces) : Type 0 where
  pub places : unique.places ≡ map (λ cmd. unwrap_or (first_with_cmd image cmd commands) 0) unique_cmds
  pub after_header : ¬ Contains commands 0

-- the command is long enough for its structure, and has a bad name
abbrev pub IsWholeAndMisnamed : List ℕ → ℕ → Type 0
IsWholeAndMisnamed image command = (¬ IsShort image command) × HasBadName image command

-- there are that many good commands before the place, one after another from the end of the header
-- on
pub record IsAt (image : List ℕ) (walked place : ℕ) : Type 0 where
  pub places : List ℕ
  pub count : length places ≡ walked
  pub chain : IsChain image places place

-- the first commands of an image, up to a number
abbrev pub first_commands : List ℕ → ℕ → List ℕ
first_commands image walked = places_from image loader.MACH_HEADER_64_SIZE walked

-- the command is a second one of a kind that an image has at most once, after so many commands
abbrev pub Repeats : List ℕ → ℕ → ℕ → Type 0
Repeats image walked command = RepeatsEarlier image (first_commands image walked) command

-- tests of a command: it has the cmd; it names a library (specs/Library); it names a table
abbrev pub has_cmd : ℕ → List ℕ → ℕ → Bool
has_cmd cmd image command = command_cmd image command == cmd

abbrev pub has_tables : Structure → Bool
has_tables structure = not (length (table_fields structure) == 0)

abbrev pub names_table : List ℕ → ℕ → Bool
names_table image command =
    option_map_or has_tables (structure_of (command_cmd image command)) false

-- a command with so many before it passes the test
pub record Passes (image : List ℕ) (test : ℕ → Bool) (before : ℕ) : Type 0 where
  pub place : ℕ
  pub at : IsAt image before place
  pub passes : test place ≡ true

-- the range has the first of the first commands that passes the test, the last, and those between
pub record IsRange (image : List ℕ) (test : ℕ → Bool) (walked : ℕ) (range : CommandRange)
    : Type 0 where
  pub most : range.before + range.count ≤ walked
  pub start : IsAt image range.before range.place
  pub none_before : filter test (first_commands image range.before) ≡ []
  pub none_after : filter test (first_commands image (range.before + range.count))
      ≡ filter test (first_commands image walked)
  pub first : 0 < range.count → test range.place ≡ true
  pub last : 0 < range.count → Passes image test (range.before + range.count - 1)

-- where the commands that views look for are among the first commands
pub record AreLandmarks (image : List ℕ) (walked : ℕ) (landmarks : Landmarks) : Type 0 where
  pub first : AreFirst image (first_commands image walked) landmarks.unique
  pub segments : IsRange image (has_cmd loader.LC_SEGMENT_64 image) walked landmarks.segments
  pub builds : IsRange image (has_cmd loader.LC_BUILD_VERSION image) walked landmarks.builds
  pub libraries : IsRange image (is_library image) walked landmarks.libraries
  pub tables : IsRange image (names_table image) walked landmarks.tables

-- an opened image, and where the commands are that views look for
pub record HasLandmarks (image : List ℕ) (landmarks : Landmarks) : Type 0 where
  pub opened : IsOpened image
  pub all : AreLandmarks image (command_count image) landmarks

-- the next command, after so many, is at the place
pub record CanPass (survey : CommandSurvey) (walked place : ℕ) : Type 0 where
  pub at : IsAt (bytes_of survey.candidate.bytes) walked place
  pub good : IsGood (bytes_of survey.candidate.bytes) place
  pub inside : commands_end (bytes_of survey.candidate.bytes) ≤ length (bytes_of survey.candidate.bytes)

-- of that many first commands, the first that breaks each rule is noted
pub record HasPassed (survey : CommandSurvey) (walked : ℕ) : Type 0 where
  pub landmarks : AreLandmarks (bytes_of survey.candidate.bytes) walked survey.landmarks
  pub short : IsFirstOf (λ command. command) (IsShort (bytes_of survey.candidate.bytes))
      (first_commands (bytes_of survey.candidate.bytes) walked) survey.command_short
  pub repeated : IsFirstOf (λ command. command) (Repeats (bytes_of survey.candidate.bytes) walked)
      (first_commands (bytes_of survey.candidate.bytes) walked) survey.command_repeated
  pub name : IsFirstOf (λ command. command) (IsWholeAndMisnamed (bytes_of survey.candidate.bytes))
      (first_commands (bytes_of survey.candidate.bytes) walked) survey.name

abbrev pub HasPassedAll : CommandSurvey → Type 0
HasPassedAll survey = HasPassed survey (command_count (bytes_of survey.candidate.bytes))

-- The walk over the commands

-- a command whose fields are read from its own bytes, which end where it ends
pub record IsAlone (c : CommandView) : Type 0 where
  pub cmd : c.cmd ≡ command_cmd c.bytes 0
  pub size : c.size ≡ command_size c.bytes 0
  pub whole : c.size ≡ length c.bytes

-- there are `left` commands from the place on, inside the image
pub record CanWalk (image : List ℕ) (place left : ℕ) : Type 0 where
  pub good : All (IsGood image) (places_from image place left)
  pub inside : commands_end image ≤ length image
