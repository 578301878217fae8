-- The libraries that an image names. (mach-o/loader.h: dylib_command)
use Rattle.std.specs.Prelude.{ℕ, ◌+◌, Bool, List, map, filter}
use Rattle.macho_fields.specs.Image.{word, command_cmd}
use Rattle.macho_fields.specs.LoadCommands.{names_library}
use Rattle.macho_image.specs.Command.{CommandView, command_name}
use Rattle.macho_image.specs.declared.library.Dylib.{Dylib}

-- the command names a library
abbrev pub is_library : List ℕ → ℕ → Bool
is_library image command = names_library (command_cmd image command)

-- the commands that do, in order
abbrev pub libraries : List ℕ → List ℕ → List ℕ
libraries image commands = filter (is_library image) commands

-- a library: the place and the cmd of its command, its name and two versions
pub record DylibView : Type 0 where
  pub place : ℕ
  pub cmd : ℕ
  pub name : List ℕ
  pub current : ℕ
  pub compatible : ℕ

abbrev pub dylib_of : Dylib → DylibView
dylib_of d = record {
  place = d.place;
  cmd = d.cmd;
  name = d.name.now;
  current = d.current;
  compatible = d.compatible;
}

-- dylib_command: the offset of the name at 8, current_version at 16, compatibility_version at 20
abbrev pub dylib_at : List ℕ → ℕ → DylibView
dylib_at image command = record {
  place = command;
  cmd = command_cmd image command;
  name = command_name image command;
  current = word image (command + 16);
  compatible = word image (command + 20);
}

-- the libraries among the commands that remain
abbrev pub libraries_left : List CommandView → List CommandView
libraries_left commands = filter (λ c. names_library c.cmd) commands

abbrev pub dylibs_left : List ℕ → List CommandView → List DylibView
dylibs_left image commands = map (λ c. dylib_at image c.place) (libraries_left commands)
