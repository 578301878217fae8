-- The base address of an image, and the address of its entry point.
use Rattle.std.specs.Prelude.{ℕ, ◌+◌, ◌^◌, nat_lt, List, Option, Some, None, if◌then◌else◌}
use Rattle.std.specs.Option.{option_and_then}
use Rattle.macho_fields.specs.Segment.{base_of, entryoff}
use Rattle.macho_fields.specs.declared.header.loader.TheConstants as loader
use Rattle.macho_image.specs.Command.{first_with_cmd}

-- the number as an address of 64 bits, and none where it does not fit
abbrev pub address : ℕ → Option ℕ
address number = if nat_lt number (2 ^ 64) then Some number else None

-- the address of the entry point: the base and the entryoff of LC_MAIN
abbrev pub entry_of : List ℕ → List ℕ → Option ℕ
entry_of image commands =
    option_and_then (λ base.
    option_and_then (λ main. address (base + entryoff image main))
    (first_with_cmd image loader.LC_MAIN commands)) (base_of image commands)
