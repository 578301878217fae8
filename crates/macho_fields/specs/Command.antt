-- What a listed load command must be. (mach-o/loader.h)
use Rattle.std.specs.Prelude.{◌≡◌, ℕ, ◌+◌, ◌*◌, ◌<◌, ◌⊎◌, List, Any, true, false, IsSomeAnd, nat_le}
use Rattle.std.specs.Prelude.{if◌then◌else◌}
use Rattle.std.specs.Option.{option_map_or}
use Rattle.macho_fields.specs.Field.{HasZero}
use Rattle.macho_fields.specs.Image.{word, file_type, command_cmd, command_size}
use Rattle.macho_fields.specs.FileTypes.{file_type_of}
use Rattle.macho_fields.specs.LoadCommands.{IsUnique, structure_of, structure_size, has_name, records_of}
use Rattle.macho_fields.specs.declared.load_command.Structure.{Structure}
use Rattle.macho_fields.specs.declared.header.loader.TheConstants as loader

-- the command is listed, and its structure has P
abbrev pub HasStructure : List ℕ → ℕ → (Structure → Type 0) → Type 0
HasStructure image command P = IsSomeAnd (structure_of (command_cmd image command)) P

-- the count of records in the field at this offset, 0 where the field is not wholly inside the
-- command
abbrev pub record_count : List ℕ → ℕ → ℕ → ℕ
record_count image command offset =
    if nat_le (offset + 4) (command_size image command) then word image (command + offset) else 0

-- how many bytes the records after the structure have
abbrev pub records_size : List ℕ → ℕ → Structure → ℕ
records_size image command structure =
    option_map_or (λ records. records.size * record_count image command records.count)
    (records_of structure) 0

-- the least cmdsize: the size of the structure with its records
abbrev pub least_size : List ℕ → ℕ → Structure → ℕ
least_size image command structure =
    structure_size structure + records_size image command structure

-- the structure of a listed command, with its records, is longer than its cmdsize
abbrev pub IsShort : List ℕ → ℕ → Type 0
IsShort image command =
    HasStructure image command (λ structure.
    command_size image command < least_size image command structure)

-- the command is listed, and has a name
abbrev pub IsNamed : List ℕ → ℕ → Type 0
IsNamed image command = HasStructure image command (λ structure. has_name structure ≡ true)

-- lc_str at 8 of each structure with a name: the offset of the name from the start of the command
abbrev pub name_offset : List ℕ → ℕ → ℕ
name_offset image command = word image (command + 8)

-- the place at which the name begins
abbrev pub name_start : List ℕ → ℕ → ℕ
name_start image command = command + name_offset image command

-- the structure has a name, which begins inside it, or has no zero byte before the end of the
-- command
abbrev pub IsBadName : List ℕ → ℕ → Structure → Type 0
IsBadName image command structure =
    (has_name structure ≡ true) × ((name_offset image command < structure_size structure)
    ⊎ ¬ HasZero image (name_start image command) (command + command_size image command))

abbrev pub HasBadName : List ℕ → ℕ → Type 0
HasBadName image command = HasStructure image command (IsBadName image command)

-- an image has at most one command with this cmd, and an earlier one has it too
abbrev pub RepeatsEarlier : List ℕ → List ℕ → ℕ → Type 0
RepeatsEarlier image commands command =
    IsUnique (command_cmd image command)
    × Any (λ earlier.
    (earlier < command) × (command_cmd image earlier ≡ command_cmd image command)) commands

-- some command is an LC_ID_DYLIB
abbrev pub HasDylibId : List ℕ → List ℕ → Type 0
HasDylibId image commands =
    Any (λ command. command_cmd image command ≡ loader.LC_ID_DYLIB) commands

-- an image of this filetype names itself, and has no LC_ID_DYLIB; or it does not, and has one
abbrev pub IsMisnamed : List ℕ → List ℕ → Type 0
IsMisnamed image commands =
    IsSomeAnd (file_type_of (file_type image)) (λ listed.
    ((listed.names_itself ≡ true) × ¬ HasDylibId image commands)
    ⊎ ((listed.names_itself ≡ false) × HasDylibId image commands))
