-- What is a load command? The answers of readers that compare its cmd in different ways. (mach-o/loader.h: load_command,
-- LC_REQ_DYLD)
use Rattle.std.specs.Prelude.{◌≡◌, ℕ, ◌%◌, ◌⊎◌, List, Contains, Option, Bool, true, false}
use Rattle.macho_commands.specs.Commands.{is_thread}
use Rattle.macho_commands.specs.Content.{content_of}
use Rattle.macho_commands.specs.declared.content.Content.{Content}
use Rattle.macho_fields.specs.Image.{command_cmd, commands_of}
use Rattle.macho_fields.specs.LoadCommands.{structure_of}
use Rattle.macho_fields.specs.declared.header.loader.TheConstants as loader
use Rattle.macho_fields.specs.declared.load_command.Structure.{Structure}
use Rattle.macho_readers.specs.Commands.{is_known}
use Rattle.macho_readers.specs.Models.{Agree}

-- what a command with some cmd is: its structure, what it holds besides, or a thread
pub record Meaning : Type 0 where
  pub structure : Option Structure
  pub content : Option Content
  pub thread : Bool

abbrev pub meaning_of : ℕ → Meaning
meaning_of cmd = record { structure = structure_of cmd; content = content_of cmd; thread = is_thread cmd }

-- a cmd without the bit LC_REQ_DYLD
abbrev pub unmarked : ℕ → ℕ
unmarked cmd = cmd % loader.LC_REQ_DYLD

-- a known cmd that differs from the command's by the bit at most says what the command is
abbrev pub IsMeaningUnmarked : ℕ → Meaning → Type 0
IsMeaningUnmarked cmd answer =
    (known : ℕ) × (is_known known ≡ true) × (unmarked known ≡ unmarked cmd) × (answer ≡ meaning_of known)

-- A command is what its cmd says (the verifier), what it says without the bit, or anything to a newer reader that knows a
-- cmd which the profiles do not know.
abbrev pub IsMeaningOf : List ℕ → ℕ → Meaning → Type 0
IsMeaningOf image command answer =
    let cmd = command_cmd image command in
    (answer ≡ meaning_of cmd) ⊎ (IsMeaningUnmarked cmd answer ⊎ (is_known cmd ≡ false))

abbrev pub HasOneMeaning : List ℕ → Type 0
HasOneMeaning image = (command : ℕ) → Contains (commands_of image) command → Agree (IsMeaningOf image command)
