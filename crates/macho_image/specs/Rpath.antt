-- The run paths of an image, where the libraries that it names with @rpath are looked for.
-- (mach-o/loader.h: rpath_command)
use Rattle.std.specs.Prelude.{ℕ, List, map}
use Rattle.macho_fields.specs.Image.{with_cmd}
use Rattle.macho_fields.specs.declared.header.loader.TheConstants as loader
use Rattle.macho_image.specs.Command.{CommandView, command_name, left_with_cmd}

-- the paths of the LC_RPATH commands, in order
abbrev pub rpaths_of : List ℕ → List ℕ → List (List ℕ)
rpaths_of image commands = map (command_name image) (with_cmd image loader.LC_RPATH commands)

-- the paths among the commands that remain
abbrev pub rpaths_left : List ℕ → List CommandView → List (List ℕ)
rpaths_left image commands =
    map (λ c. command_name image c.place) (left_with_cmd loader.LC_RPATH commands)
