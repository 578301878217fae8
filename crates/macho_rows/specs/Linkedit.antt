-- The data that load commands name. (mach-o/loader.h: linkedit_data_command)
use Rattle.std.specs.Prelude.{◌≡◌, ◌≢◌, ℕ, ◌+◌, ◌<◌, ◌⊎◌, List, length, Option, Some, MatchOption, nat_le, if◌then◌else◌}
use Rattle.std.specs.Option.{option_map_or}
use Rattle.macho_fields.specs.Field.{part}
use Rattle.macho_fields.specs.Image.{word, commands_of}
use Rattle.macho_fields.specs.LoadCommands.{structure_of}
use Rattle.macho_fields.specs.declared.load_command.Structure.TheVariants.{LinkeditDataCommand}
use Rattle.macho_image.specs.Command.{first_with_cmd}
use Rattle.macho_rows.specs.Loads.{first_wanted}
use Rattle.macho_rows.specs.Spans.{span_of}
use Rattle.macho_rows.specs.declared.span.KesvuotSpan.{KesvuotSpan}
use Rattle.macho_rows.specs.declared.load.Wanted.TheVariants as wanted

-- linkedit_data_command: dataoff at 8, datasize at 12
abbrev pub dataoff : List ℕ → ℕ → ℕ
dataoff image command = word image (command + 8)

abbrev pub datasize : List ℕ → ℕ → ℕ
datasize image command = word image (command + 12)

-- where all the data of the command lies, in an image that begins at `place` in the file; it lies inside
-- the image where there is any
abbrev pub IsData : List ℕ → ℕ → ℕ → KesvuotSpan → Type 0
IsData image place command span =
    let named = part (dataoff image command) (datasize image command) image in
    (span ≡ span_of (place + dataoff image command) named)
    × (length named ≡ datasize image command)

-- the data of the command ends past the image
abbrev pub PassesImage : List ℕ → ℕ → Type 0
PassesImage image command =
    (0 < datasize image command)
    × (length image < dataoff image command + datasize image command)

-- The data of the first command with a cmd. It is missing if the image has no such command, if it is of
-- another structure, or if the data does not lie inside the image.
abbrev pub HasData : List ℕ → ℕ → ℕ → Option KesvuotSpan → Type 0
HasData image place cmd found =
    MatchOption found
    ((structure_of cmd ≢ Some LinkeditDataCommand)
    ⊎ MatchOption (first_with_cmd image cmd (commands_of image)) (Unit {0}) (PassesImage image))
    (λ span. (structure_of cmd ≡ Some LinkeditDataCommand)
    × (command : ℕ) × (first_with_cmd image cmd (commands_of image) ≡ Some command)
    × IsData image place command span)

-- The data of the first command with this cmd that holds its structure: where it begins in the image, and
-- its size. It is empty without such a command, or where it ends past the image.
abbrev pub named_data : ℕ → List ℕ → ℕ × ℕ
named_data cmd image =
    option_map_or (λ command.
    if nat_le (dataoff image command + datasize image command) (length image)
    then (dataoff image command, datasize image command) else (0, 0))
    (first_wanted (wanted.LinkeditData cmd) image) (0, 0)
