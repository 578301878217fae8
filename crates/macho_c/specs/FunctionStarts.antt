-- The functions of an image, by its first LC_FUNCTION_STARTS and its base. (mach-o/loader.h:
-- linkedit_data_command)
use Rattle.std.specs.Prelude.{◌≡◌, ℕ, ◌==◌, List, [], length, MatchOption, bit_and, if◌then◌else◌}
use Rattle.macho_fields.specs.Field.{part}
use Rattle.macho_fields.specs.Image.{commands_of}
use Rattle.macho_fields.specs.Segment.{base_of}
use Rattle.macho_fields.specs.declared.header.loader.TheConstants as loader
use Rattle.macho_tables.specs.FunctionStarts.{function_starts}
use Rattle.macho_rows.specs.Cursor.{start, begun}
use Rattle.macho_rows.specs.Image.{only}
use Rattle.macho_rows.specs.Linkedit.{dataoff, datasize, named_data}
use Rattle.macho_rows.specs.Spans.{part_or_none}
use Rattle.macho_rows.specs.declared.cursor.KesvuotCursor.{KesvuotCursor}
use Rattle.macho_rows.specs.declared.image.KesvuotImage.{KesvuotImage}

-- Before the first function: all data of the command, and the base as the address before it. Without a base
-- (KESVUOT_HAS_BASE) there is nothing to read.
abbrev pub first_start : List ℕ → KesvuotImage → KesvuotCursor
first_start image row =
    let found = named_data loader.LC_FUNCTION_STARTS image in
    if bit_and row.has 2 == 0 then start
    else record { place = found.0; commands = 0; segment = row.base; items = found.1 }

-- those past the address `segment`, in the data of `items` bytes at `place`
abbrev pub starts_at : List ℕ → KesvuotCursor → List ℕ
starts_at image cursor = function_starts (part_or_none cursor.place cursor.items image) cursor.segment

-- those that remain at a cursor
abbrev pub starts_left : List ℕ → KesvuotImage → KesvuotCursor → List ℕ
starts_left image row cursor = starts_at image (begun (first_start image row) cursor)

-- By the image alone: all functions that the data of its command has, which all lies inside the image.
-- None where it has no base, or no such command.
abbrev pub HasAllStarts : List ℕ → List ℕ → Type 0
HasAllStarts image starts =
    MatchOption (base_of image (commands_of image)) (starts ≡ []) (λ base.
    MatchOption (only image loader.LC_FUNCTION_STARTS) (starts ≡ []) (λ command.
    let held = part (dataoff image command) (datasize image command) image in
    (starts ≡ function_starts held base) × (length held ≡ datasize image command)))
