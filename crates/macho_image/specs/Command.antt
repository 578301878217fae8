-- The load commands of an opened image, as its iterators return them.
use Rattle.std.specs.Prelude.{ℕ, ◌==◌, List, Option, map, filter, slice_get}
use Rattle.macho_fields.specs.Command.{name_start}
use Rattle.macho_fields.specs.Field.{part, string_from}
use Rattle.macho_fields.specs.Image.{command_cmd, command_size, with_cmd, places_from}
use Rattle.macho_image.specs.declared.command.Command.{Command}

-- the first of the commands with one cmd
abbrev pub first_with_cmd : List ℕ → ℕ → List ℕ → Option ℕ
first_with_cmd image wanted commands = slice_get (with_cmd image wanted commands) 0

-- a command: its place, cmd, cmdsize and bytes
pub record CommandView : Type 0 where
  pub place : ℕ
  pub cmd : ℕ
  pub size : ℕ
  pub bytes : List ℕ

abbrev pub command_of : Command → CommandView
command_of c = record { place = c.place; cmd = c.cmd; size = c.size; bytes = c.bytes.now }

-- the command at the place
abbrev pub command_at : List ℕ → ℕ → CommandView
command_at image place = record {
  place = place;
  cmd = command_cmd image place;
  size = command_size image place;
  bytes = part place (command_size image place) image;
}

-- the name of a command, whose offset is the lc_str at 8 of its structure: the bytes up to the
-- first zero byte
abbrev pub command_name : List ℕ → ℕ → List ℕ
command_name image command = string_from (name_start image command) image

-- `left` commands from a place on, one after another
abbrev pub commands_left : List ℕ → ℕ → ℕ → List CommandView
commands_left image place left = map (command_at image) (places_from image place left)

-- those with one cmd among the commands that remain
abbrev pub left_with_cmd : ℕ → List CommandView → List CommandView
left_with_cmd wanted commands = filter (λ c. c.cmd == wanted) commands
