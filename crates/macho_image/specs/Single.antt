-- Commands that an image has at most once. (mach-o/loader.h: uuid_command, entry_point_command)
use Rattle.std.specs.Prelude.{ℕ, ◌+◌, List}
use Rattle.macho_fields.specs.Field.{part}
use Rattle.macho_fields.specs.Image.{long}
use Rattle.macho_fields.specs.Segment.{entryoff}
use Rattle.macho_image.specs.declared.main_command.MainCommand.{MainCommand}

-- uuid_command: the 16 bytes of uuid at 8
abbrev pub uuid_at : List ℕ → ℕ → List ℕ
uuid_at image command = part (command + 8) 16 image

-- entry_point_command: entryoff at 8, stacksize at 16
abbrev pub main_command_at : List ℕ → ℕ → MainCommand
main_command_at image command = record {
  place = command;
  entryoff = entryoff image command;
  stacksize = long image (command + 16);
}
