-- The table that the first linkedit_data_command with a cmd names, and a rule of its bytes. A place is one in the
-- image, and an offset one in the table. (mach-o/loader.h: linkedit_data_command)
use Rattle.std.specs.Prelude.{◌≡◌, ℕ, ◌+◌, ◌<◌, List, IsSomeAnd}
use Rattle.macho_fields.specs.Field.{part}
use Rattle.macho_fields.specs.Image.{commands_of}
use Rattle.macho_fields.specs.LoadCommands.{linkedit_data_table}
use Rattle.macho_fields.specs.Symbol.{table_at}
use Rattle.macho_image.specs.Command.{first_with_cmd}
use Rattle.macho_tables.specs.Homes.{bytes_of_table}
use Rattle.macho_spans.specs.declared.span.Span.{Span}

-- its bytes, where it has some
abbrev pub IsDataTable : List ℕ → ℕ → Span → Type 0
IsDataTable image cmd table =
    IsSomeAnd (first_with_cmd image cmd (commands_of image))
    (λ command. (table ≡ bytes_of_table (table_at image command linkedit_data_table)) × (0 < table.len))

-- a rule of an image and the bytes of a table that has some, at a place of the image
abbrev pub InTableBytes : List ℕ → ℕ × ℕ × ℕ → (List ℕ → List ℕ → ℕ → Type 0) → ℕ → Type 0
InTableBytes image table Rule place =
    (0 < table.1)
    × ((offset : ℕ) × (place ≡ table.0 + offset) × Rule image (part table.0 table.1 image) offset)

-- a rule of such a table is broken at a place
abbrev pub InDataTable : List ℕ → ℕ → (List ℕ → List ℕ → ℕ → Type 0) → ℕ → Type 0
InDataTable image cmd Rule place =
    IsSomeAnd (first_with_cmd image cmd (commands_of image))
    (λ command. InTableBytes image (table_at image command linkedit_data_table) Rule place)
