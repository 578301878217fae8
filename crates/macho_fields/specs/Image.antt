-- An image, its header and its chain of load commands. The fields of an image are little-endian,
-- and its places are counted from its own first byte. (mach-o/loader.h: mach_header_64,
-- load_command)
use Rattle.std.specs.Prelude.{◌≡◌, ℕ, zero, suc, ◌+◌, ◌%◌, ◌≤◌, ◌==◌, List, [], ◌∷◌, length, filter}
use Rattle.macho_fields.specs.Field.{number}
use Rattle.macho_fields.specs.declared.bytes.Order.TheVariants.{Little}
use Rattle.macho_fields.specs.declared.header.loader.TheConstants as loader

-- a field of 32 bits, and one of 64
abbrev pub word : List ℕ → ℕ → ℕ
word image place = number Little 4 image place

abbrev pub long : List ℕ → ℕ → ℕ
long image place = number Little 8 image place

-- mach_header_64: cputype at 4, cpusubtype 8, filetype 12, ncmds 16, sizeofcmds 20
abbrev pub cpu_type : List ℕ → ℕ
cpu_type image = word image 4

abbrev pub cpu_subtype : List ℕ → ℕ
cpu_subtype image = word image 8

abbrev pub file_type : List ℕ → ℕ
file_type image = word image 12

abbrev pub command_count : List ℕ → ℕ
command_count image = word image 16

-- mach_header_64.sizeofcmds: the first place past the bytes that the header reserves for the
-- commands
abbrev pub commands_end : List ℕ → ℕ
commands_end image = loader.MACH_HEADER_64_SIZE + word image 20

-- load_command: cmd at 0, cmdsize at 4. A command is named by its place.
abbrev pub command_cmd : List ℕ → ℕ → ℕ
command_cmd image command = word image command

abbrev pub command_size : List ℕ → ℕ → ℕ
command_size image command = word image (command + 4)

-- a command can be at this place: it ends no later than the commands, and its cmdsize is a
-- multiple of 8, and no less than the size of load_command
pub record IsGood (image : List ℕ) (place : ℕ) : Type 0 where
  pub head : place + loader.LOAD_COMMAND_SIZE ≤ commands_end image
  pub whole : command_size image place % 8 ≡ 0
  pub least : loader.LOAD_COMMAND_SIZE ≤ command_size image place
  pub inside : place + command_size image place ≤ commands_end image

-- Good commands are at these places: the first at start, each other one where the one before it
-- ends. The last one ends at next, which is start without a command.
abbrev pub Follow : List ℕ → ℕ → List ℕ → ℕ → Type 0
Follow image start [] next = start ≡ next
Follow image start (place ∷ places) next =
    (place ≡ start) × IsGood image place
    × Follow image (place + command_size image place) places next

-- a chain begins after the header
abbrev pub IsChain : List ℕ → List ℕ → ℕ → Type 0
IsChain image places next = Follow image loader.MACH_HEADER_64_SIZE places next

-- the places of all commands of the image: the chain of mach_header_64.ncmds commands
abbrev pub AreCommands : List ℕ → List ℕ → Type 0
AreCommands image commands =
    (length commands ≡ command_count image) × (next : ℕ) × IsChain image commands next

-- so many places: the first is at start, and each other one cmdsize bytes after the one
-- before it
abbrev pub places_from : List ℕ → ℕ → ℕ → List ℕ
places_from image start zero = []
places_from image start (suc left) =
    start ∷ places_from image (start + command_size image start) left

-- The places of all commands of an image whose walk does not break: AreCommands holds of this list
-- and of no other.
abbrev pub commands_of : List ℕ → List ℕ
commands_of image = places_from image loader.MACH_HEADER_64_SIZE (command_count image)

-- the commands with one cmd, in order
abbrev pub with_cmd : List ℕ → ℕ → List ℕ → List ℕ
with_cmd image wanted commands = filter (λ command. command_cmd image command == wanted) commands
