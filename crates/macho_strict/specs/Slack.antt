-- What the bytes of a load command are that nothing in it describes.
use Rattle.std.specs.Prelude.{ℕ, ◌+◌, ◌≤◌, ◌<◌, List, IfSome}
use Rattle.macho_fields.specs.Command.{name_start}
use Rattle.macho_fields.specs.Field.{HasZero}
use Rattle.macho_fields.specs.Image.{command_size}
use Rattle.macho_fields.specs.LoadCommands.{records_of}
use Rattle.macho_fields.specs.NonZero.{IsNonZero}
use Rattle.macho_fields.specs.declared.load_command.Structure.{Structure}
use Rattle.macho_strict.specs.Rules.{IsSlack}

-- a byte of the command that is not zero, and that nothing in it describes, is at the place
abbrev pub IsNonZeroSlack : List ℕ → ℕ → ℕ → Type 0
IsNonZeroSlack image command place = IsNonZero image place × IsSlack image place command

-- a byte that is not zero is at the place, which is from start on and before end
abbrev pub IsNonZeroWithin : List ℕ → ℕ → ℕ → ℕ → Type 0
IsNonZeroWithin image start end place =
    (start ≤ place) × (place < end) × IsNonZero image place

-- and it is not in the name of the command
abbrev pub IsNonZeroAround : List ℕ → ℕ → ℕ → ℕ → ℕ → Type 0
IsNonZeroAround image command start end place =
    IsNonZeroWithin image start end place
    × ¬ ((name_start image command ≤ place) × ¬ HasZero image (name_start image command) place)

-- the number of records lies in the command, which has this structure, and in the image
abbrev pub IsCounted : List ℕ → ℕ → Structure → Type 0
IsCounted image command structure =
    IfSome (records_of structure)
    (λ records. records.count + 4 ≤ command_size image command)
