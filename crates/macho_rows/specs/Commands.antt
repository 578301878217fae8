-- The rows of the load commands of an image. (mach-o/loader.h: load_command)
use Rattle.std.specs.Prelude.{ℕ, ◌+◌, List, map, drop, if◌then◌else◌, false}
use Rattle.std.specs.Option.{option_map_or}
use Rattle.macho_fields.specs.Field.{field, part}
use Rattle.macho_fields.specs.Image.{command_cmd, command_size, commands_of}
use Rattle.macho_fields.specs.LoadCommands.{structure_of, has_name}
use Rattle.macho_fields.specs.declared.bytes.Order.TheVariants.{Little}
use Rattle.macho_image.specs.Command.{CommandView, command_at}
use Rattle.macho_rows.specs.Loads.{wanted_left}
use Rattle.macho_rows.specs.Rows.{ended_string}
use Rattle.macho_rows.specs.Spans.{span_at, span_of, part_or_none}
use Rattle.macho_rows.specs.declared.commands.KesvuotCommand.{KesvuotCommand}
use Rattle.macho_rows.specs.declared.cursor.KesvuotCursor.{KesvuotCursor}
use Rattle.macho_rows.specs.declared.load.Wanted.TheVariants as wanted
use Rattle.macho_rows.specs.declared.span.KesvuotSpan.{KesvuotSpan}

-- where the name in the bytes of a command lies, which begin at `place` in the file: from the offset on
-- that its lc_str has at 8, up to the first zero byte
abbrev pub name_in : ℕ → List ℕ → KesvuotSpan
name_in place bytes =
    option_map_or (λ offset. span_of (place + offset) (ended_string (drop offset bytes)))
    (field Little 4 bytes 8) (span_at 0 0)

-- the same of the command at a place of the image that begins at `place` in the file
abbrev pub name_span : ℕ → List ℕ → ℕ → KesvuotSpan
name_span place image command =
    name_in (place + command) (part command (command_size image command) image)

-- the row of a command; it has a name where the command is listed, and its structure has one
abbrev pub command_row : ℕ → List ℕ → ℕ → KesvuotCommand
command_row place image command = record {
  bytes =
      span_of (place + command) (part_or_none command (command_size image command) image);
  name =
      if option_map_or has_name (structure_of (command_cmd image command)) false
      then name_span place image command else span_at 0 0;
  cmd = command_cmd image command;
  reserved = 0;
}

-- those that remain at a cursor
abbrev pub command_rows_left : ℕ → List ℕ → KesvuotCursor → List KesvuotCommand
command_rows_left place image cursor =
    map (command_row place image) (wanted_left wanted.All image cursor)

-- the rows of all commands, in their order
abbrev pub all_commands : ℕ → List ℕ → List KesvuotCommand
all_commands place image = map (command_row place image) (commands_of image)

-- the commands as views
abbrev pub commands_in : List ℕ → List CommandView
commands_in image = map (command_at image) (commands_of image)
