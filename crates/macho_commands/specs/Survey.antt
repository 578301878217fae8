-- What one walk over the commands of an image finds.
use Rattle.std.specs.Prelude.{◌≡◌, ◌⊎◌, ◌↔◌, ℕ, List, true, IsTrue}
use Rattle.macho_fields.specs.FirstPlace.{IsNoted, IsLeastPlace}
use Rattle.macho_image.specs.Command.{CommandView}
use Rattle.macho_commands.specs.Commands.{is_thread, is_routine, IsBadThread, IsBadCommand, BreaksThread, BreaksCommandContent}
use Rattle.macho_commands.specs.declared.survey.CommandSurvey.{CommandSurvey}
use Rattle.macho_commands.specs.declared.survey.Walk.{Walk}

-- a thread is noted, which may be bad
pub record NotesThread (image : List ℕ) (command : CommandView) (old new : Walk) : Type 0 where
  pub has_thread : IsTrue new.has_thread ↔ (IsTrue old.has_thread ⊎ (is_thread command.cmd ≡ true))
  pub thread : IsNoted
      ((is_thread command.cmd ≡ true) × IsBadThread image (IsTrue old.has_thread) command.bytes)
      command.place old.thread new.thread

-- a command is noted, whose content may be bad
pub record NotesContent (image : List ℕ) (command : CommandView) (old new : Walk) : Type 0 where
  pub has_routine : IsTrue new.has_routine
      ↔ (IsTrue old.has_routine ⊎ (is_routine command.cmd ≡ true))
  pub content : IsNoted (IsBadCommand image (IsTrue old.has_routine) command.cmd command.bytes)
      command.place old.content new.content

-- the least places at which the rules are broken
pub record IsCommandSurveyOf (image : List ℕ) (survey : CommandSurvey) : Type 0 where
  pub thread : IsLeastPlace (BreaksThread image) survey.thread
  pub content : IsLeastPlace (BreaksCommandContent image) survey.content
