-- The rows of the libraries that an image loads, and of what it is as one. (mach-o/loader.h:
-- dylib_command)
use Rattle.std.specs.Prelude.{ℕ, ◌+◌, List, map, filter}
use Rattle.macho_fields.specs.Image.{word, command_cmd, commands_of}
use Rattle.macho_rows.specs.Commands.{name_span}
use Rattle.macho_rows.specs.Loads.{loads_library, wanted_left}
use Rattle.macho_rows.specs.Spans.{span_at}
use Rattle.macho_rows.specs.declared.cursor.KesvuotCursor.{KesvuotCursor}
use Rattle.macho_rows.specs.declared.libraries.KesvuotLibrary.{KesvuotLibrary}
use Rattle.macho_rows.specs.declared.load.Wanted.TheVariants as wanted

-- the row of a dylib_command: current_version at 16, compatibility_version at 20
abbrev pub library_row : ℕ → List ℕ → ℕ → KesvuotLibrary
library_row place image command = record {
  name = name_span place image command;
  cmd = command_cmd image command;
  current = word image (command + 16);
  compatible = word image (command + 20);
  reserved = 0;
}

abbrev pub no_library : KesvuotLibrary
no_library = record { name = span_at 0 0; cmd = 0; current = 0; compatible = 0; reserved = 0 }

-- those that remain at a cursor
abbrev pub libraries_left : ℕ → List ℕ → KesvuotCursor → List KesvuotLibrary
libraries_left place image cursor =
    map (library_row place image) (wanted_left wanted.Libraries image cursor)

-- the commands of an image that name a library that it loads, in their order
abbrev pub loaded_by : List ℕ → List ℕ
loaded_by image = filter (λ c. loads_library (command_cmd image c)) (commands_of image)

-- the rows of all
abbrev pub all_libraries : ℕ → List ℕ → List KesvuotLibrary
all_libraries place image = map (library_row place image) (loaded_by image)
