-- The rows of the builds of an image. (mach-o/loader.h: build_version_command, version_min_command)
use Rattle.std.specs.Prelude.{ℕ, ◌+◌, ◌==◌, List, map, filter, nat_le, Bool}
use Rattle.std.specs.Option.{option_map_or}
use Rattle.macho_fields.specs.Image.{word, command_cmd, command_size, commands_of}
use Rattle.macho_fields.specs.declared.header.loader.TheConstants as loader
use Rattle.macho_rows.specs.Loads.{version_min_platform, wanted_left}
use Rattle.macho_rows.specs.declared.builds.KesvuotBuild.{KesvuotBuild}
use Rattle.macho_rows.specs.declared.cursor.KesvuotCursor.{KesvuotCursor}
use Rattle.macho_rows.specs.declared.load.Wanted.TheVariants as wanted

-- the row of a build_version_command: platform at 8, minos 12, sdk 16
abbrev pub build_version_row : List ℕ → ℕ → KesvuotBuild
build_version_row image command = record {
  platform = word image (command + 8);
  minos = word image (command + 12);
  sdk = word image (command + 16);
  cmd = command_cmd image command;
}

-- the row of a version_min_command of a platform: version at 8, sdk 12
abbrev pub version_min_row : List ℕ → ℕ → ℕ → KesvuotBuild
version_min_row image command platform = record {
  platform = platform;
  minos = word image (command + 8);
  sdk = word image (command + 12);
  cmd = command_cmd image command;
}

abbrev pub build_row : List ℕ → ℕ → KesvuotBuild
build_row image command =
    option_map_or (version_min_row image command)
    (version_min_platform (command_cmd image command)) (build_version_row image command)

-- those that remain at a cursor
abbrev pub builds_left : List ℕ → KesvuotCursor → List KesvuotBuild
builds_left image cursor = map (build_row image) (wanted_left wanted.Builds image cursor)

-- the command has the platform of a build: LC_BUILD_VERSION, or a version_min_command, which is not judged
-- and may be too short
abbrev pub names_platform : List ℕ → ℕ → Bool
names_platform image command =
    option_map_or (λ platform. nat_le 16 (command_size image command))
    (version_min_platform (command_cmd image command))
    (command_cmd image command == loader.LC_BUILD_VERSION)

-- these commands of an image, in their order
abbrev pub builds_in : List ℕ → List ℕ
builds_in image = filter (names_platform image) (commands_of image)

-- the rows of all
abbrev pub all_builds : List ℕ → List KesvuotBuild
all_builds image = map (build_row image) (builds_in image)
