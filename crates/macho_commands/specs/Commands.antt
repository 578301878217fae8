-- Where an image breaks the rules of threads and of the content of commands. A command is named by its place.
-- (mach-o/loader.h)
use Rattle.std.specs.Prelude.{◌≡◌, ℕ, ◌<◌, ◌||◌, ◌==◌, ◌⊎◌, List, length, find, Any, Contains, Option, Bool, true, false, IsSomeAnd}
use Rattle.std.specs.Option.{option_map_or}
use Rattle.macho_fields.specs.Field.{part}
use Rattle.macho_fields.specs.Image.{cpu_type, command_cmd, command_size, commands_of}
use Rattle.macho_fields.specs.Segment.{IsExecutable}
use Rattle.macho_fields.specs.Symbol.{number_of, table_at, IsOutside}
use Rattle.macho_commands.specs.Content.{content_of, is_foreign}
use Rattle.macho_commands.specs.Described.{HasBadPart, HasStrayByte}
use Rattle.macho_commands.specs.States.{HasThreadEntry}
use Rattle.macho_commands.specs.declared.content.Content.{Content}
use Rattle.macho_commands.specs.declared.content.Holding.{Holding}
use Rattle.macho_commands.specs.declared.content.Holding.TheVariants as holding
use Rattle.macho_fields.specs.declared.header.loader.TheConstants as loader

-- the bytes of a command
abbrev pub command_bytes : List ℕ → ℕ → List ℕ
command_bytes image command = part command (command_size image command) image

-- a command of the image before this one has a cmd of the same kind
abbrev pub HasEarlier : List ℕ → (ℕ → Bool) → ℕ → Type 0
HasEarlier image is_kind command =
    Any (λ earlier. (earlier < command) × (is_kind (command_cmd image earlier) ≡ true))
    (commands_of image)

-- Threads

abbrev pub is_thread : ℕ → Bool
is_thread cmd = (cmd == loader.LC_THREAD) || (cmd == loader.LC_UNIXTHREAD)

-- the thread with these bytes names this address, which has a byte of the file that may be executed
abbrev pub NamesEntry : List ℕ → List ℕ → ℕ → Type 0
NamesEntry image bytes entry =
    HasThreadEntry (cpu_type image) bytes entry × IsExecutable image (commands_of image) entry

-- it names one
abbrev pub IsSoundThread : List ℕ → List ℕ → Type 0
IsSoundThread image bytes = (entry : ℕ) × NamesEntry image bytes entry

-- a thread that comes after another, or is not sound
abbrev pub IsBadThread : List ℕ → Type 0 → List ℕ → Type 0
IsBadThread image repeats bytes = repeats ⊎ ¬ IsSoundThread image bytes

abbrev pub BreaksThread : List ℕ → ℕ → Type 0
BreaksThread image place =
    Contains (commands_of image) place × (is_thread (command_cmd image place) ≡ true)
    × IsBadThread image (HasEarlier image is_thread place) (command_bytes image place)

-- the first thread of an image
abbrev pub first_thread : List ℕ → Option ℕ
first_thread image =
    find (λ command. is_thread (command_cmd image command)) (commands_of image)

-- it names this entry
abbrev pub IsThreadEntry : List ℕ → ℕ → Type 0
IsThreadEntry image entry =
    IsSomeAnd (first_thread image) (λ thread. NamesEntry image (command_bytes image thread) entry)

-- Contents

-- routines_command, routines_command_64: init_address at 8, of 32 and of 64 bits
abbrev pub is_routine_holding : Holding → Bool
is_routine_holding (holding.Routine width) = true
is_routine_holding other = false

abbrev pub is_routine : ℕ → Bool
is_routine cmd = option_map_or (λ content. is_routine_holding content.holding) (content_of cmd) false

-- What the command names outside of itself is bad: a range that has bytes and ends past the image, a routine that
-- comes after another, or whose address has no byte of the file that may be executed.
abbrev pub HasBadTarget : List ℕ → Type 0 → List ℕ → Holding → Type 0
HasBadTarget image repeats bytes (holding.Range fields) = IsOutside image (table_at bytes 0 fields)
HasBadTarget image repeats bytes (holding.Routine width) =
    repeats
    ⊎ ¬ IsExecutable image (commands_of image)
    (number_of width bytes 8)
HasBadTarget image repeats bytes other = ⊥

-- the command is shorter than its structure, names something bad, has a part that is bad, or a byte that is not zero
-- and lies in none
abbrev pub HasBadContent : List ℕ → Type 0 → List ℕ → Content → Type 0
HasBadContent image repeats bytes content =
    (length bytes < content.size) ⊎ (HasBadTarget image repeats bytes content.holding
    ⊎ (HasBadPart bytes content ⊎ HasStrayByte bytes content))

-- the command is for no image of this kind, or it is held, and its content is bad
abbrev pub IsBadCommand : List ℕ → Type 0 → ℕ → List ℕ → Type 0
IsBadCommand image repeats cmd bytes =
    (is_foreign cmd ≡ true) ⊎ IsSomeAnd (content_of cmd) (HasBadContent image repeats bytes)

abbrev pub BreaksCommandContent : List ℕ → ℕ → Type 0
BreaksCommandContent image place =
    Contains (commands_of image) place
    × IsBadCommand image (HasEarlier image is_routine place) (command_cmd image place)
    (command_bytes image place)
