-- The platforms that an image is built for. (mach-o/loader.h: build_version_command)
use Rattle.std.specs.Prelude.{ℕ, ◌+◌, List, map}
use Rattle.macho_fields.specs.Image.{word}
use Rattle.macho_fields.specs.declared.header.loader.TheConstants as loader
use Rattle.macho_image.specs.Command.{CommandView, left_with_cmd}
use Rattle.macho_image.specs.declared.build.Build.{Build}

-- build_version_command: platform at 8, minos 12, sdk 16
abbrev pub build_at : List ℕ → ℕ → Build
build_at image command = record {
  place = command;
  platform = word image (command + 8);
  minos = word image (command + 12);
  sdk = word image (command + 16);
}

-- the builds among the commands that remain
abbrev pub builds_left : List ℕ → List CommandView → List Build
builds_left image commands =
    map (λ c. build_at image c.place) (left_with_cmd loader.LC_BUILD_VERSION commands)
