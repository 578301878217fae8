-- The places of commands and of breaks. (mach-o/loader.h: dyld_info_command)
use Rattle.std.specs.Prelude.{ℕ, ◌+◌, List, min, Option, Some, None}
use Rattle.std.specs.Option.{option_map_or}
use Rattle.macho_fields.specs.Image.{commands_of}
use Rattle.macho_fields.specs.LoadCommands.{word_table}
use Rattle.macho_fields.specs.declared.header.loader.TheConstants as loader
use Rattle.macho_fields.specs.declared.load_command.TableFields.{TableFields}
use Rattle.macho_image.specs.Command.{first_with_cmd}

-- the command that names the streams of opcodes of an image, which is at most one after table-repeated
abbrev pub dyld_info : List ℕ → Option ℕ
dyld_info image =
    option_map_or (λ command. Some command)
    (first_with_cmd image loader.LC_DYLD_INFO_ONLY (commands_of image))
    (first_with_cmd image loader.LC_DYLD_INFO (commands_of image))

-- the fields that bound a table of bytes: its start is at a place, and its size follows
abbrev pub bounded_at : ℕ → TableFields
bounded_at place = word_table place (place + 4) 1

-- the lesser of two places
abbrev pub lesser : Option ℕ → Option ℕ → Option ℕ
lesser None other = other
lesser (Some one) None = Some one
lesser (Some one) (Some other) = Some (min one other)
