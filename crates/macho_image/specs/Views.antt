-- What the views of an opened image need of it.
use Rattle.std.specs.Prelude.{◌≡◌, ℕ, ◌+◌, ◌*◌, ◌≤◌, List}
use Rattle.std.specs.Prelude.{length, map, All}
use Rattle.macho_fields.specs.Command.{name_start}
use Rattle.macho_fields.specs.Field.{HasZero}
use Rattle.macho_fields.specs.Image.{commands_of, with_cmd}
use Rattle.macho_fields.specs.LoadCommands.{structure_size}
use Rattle.macho_fields.specs.Segment.{nsects}
use Rattle.macho_fields.specs.declared.header.loader.TheConstants as loader
use Rattle.macho_fields.specs.declared.load_command.Structure.TheVariants.{DylibCommand}
use Rattle.macho_fields.specs.declared.load_command.Structure.TheVariants.{BuildVersionCommand}
use Rattle.macho_image.specs.Command.{CommandView, command_at, left_with_cmd}
use Rattle.macho_image.specs.Library.{libraries, libraries_left}

-- the structure of a segment and its sections lie inside the image
abbrev pub HoldsSegment : List ℕ → ℕ → Type 0
HoldsSegment image segment =
    segment + loader.SEGMENT_COMMAND_64_SIZE + loader.SECTION_64_SIZE * nsects image segment
    ≤ length image

-- the commands of a walk have all those of the image with the cmd
abbrev pub HaveAll : ℕ → List ℕ → List CommandView → Type 0
HaveAll cmd image commands =
    left_with_cmd cmd commands ≡ map (command_at image) (with_cmd image cmd (commands_of image))

-- .. or all that name a library
abbrev pub HaveLibraries : List ℕ → List CommandView → Type 0
HaveLibraries image commands =
    libraries_left commands ≡ map (command_at image) (libraries image (commands_of image))

-- the segments among the commands that remain lie inside the image
abbrev pub HoldSegments : List ℕ → List CommandView → Type 0
HoldSegments image commands =
    All (λ c. HoldsSegment image c.place) (left_with_cmd loader.LC_SEGMENT_64 commands)

-- the section and its segment lie inside the image
pub record HoldsSection (image : List ℕ) (segment section : ℕ) : Type 0 where
  pub held : HoldsSegment image segment
  pub inside : section + loader.SECTION_64_SIZE ≤ length image

-- the lc_str of a command lies inside the image, and so does the zero byte that ends its name
pub record HoldsName (image : List ℕ) (command : ℕ) : Type 0 where
  pub whole : command + loader.LC_STR_OFFSET + 4 ≤ length image
  pub ended : HasZero image (name_start image command) (length image)

abbrev pub HoldNames : List ℕ → ℕ → List CommandView → Type 0
HoldNames image cmd commands = All (λ c. HoldsName image c.place) (left_with_cmd cmd commands)

-- a dylib_command lies inside the image, and so does the zero byte that ends its name
pub record HoldsLibrary (image : List ℕ) (command : ℕ) : Type 0 where
  pub whole : command + structure_size DylibCommand ≤ length image
  pub ended : HasZero image (name_start image command) (length image)

abbrev pub HoldLibraries : List ℕ → List CommandView → Type 0
HoldLibraries image commands = All (λ c. HoldsLibrary image c.place) (libraries_left commands)

-- the first `size` bytes of each command lie inside the image
abbrev pub LieInside : List ℕ → ℕ → List CommandView → Type 0
LieInside image size commands = All (λ c. c.place + size ≤ length image) commands

abbrev pub HoldBuilds : List ℕ → List CommandView → Type 0
HoldBuilds image commands =
    LieInside image (structure_size BuildVersionCommand)
    (left_with_cmd loader.LC_BUILD_VERSION commands)

-- the items of `each` bytes at these places lie inside the image
abbrev pub HoldItems : List ℕ → ℕ → List ℕ → Type 0
HoldItems image each places = All (λ place. place + each ≤ length image) places
