-- The tables of linked data that the rules of it are about, and where in them something is. A place is one in the image.
-- (mach-o/loader.h: linkedit_data_command)
use Rattle.std.specs.Prelude.{◌≡◌, ℕ, ◌+◌, ◌≤◌, List, length, Option, Some, None}
use Rattle.std.specs.Option.{option_map}
use Rattle.macho_fields.specs.Field.{part}
use Rattle.macho_fields.specs.Image.{commands_of}
use Rattle.macho_fields.specs.LoadCommands.{linkedit_data_table}
use Rattle.macho_fields.specs.Symbol.{table_at}
use Rattle.macho_image.specs.Command.{first_with_cmd}
use Rattle.macho_rows.specs.Rows.{IsBrokenImage}
use Rattle.macho_spans.specs.Span.{end_of}
use Rattle.macho_spans.specs.declared.span.Span.{Span}
use Rattle.macho_tables.specs.Homes.{bytes_of_table}

-- the bytes break no rule of the headers of an image
abbrev pub Opens : List ℕ → Type 0
Opens image = ¬ IsBrokenImage image None

-- the table of bytes that the first command with this cmd names
abbrev pub named_table : List ℕ → ℕ → Option Span
named_table image cmd =
    option_map (λ command. bytes_of_table (table_at image command linkedit_data_table))
    (first_with_cmd image cmd (commands_of image))

-- a table that is named, which lies in the image, and its bytes
pub record IsWhole (image : List ℕ) (found : Option Span) (table : Span) (read : List ℕ) : Type 0 where
  pub named : found ≡ Some table
  pub inside : end_of table ≤ length image
  pub bytes : read ≡ part table.start table.len image

-- The place is at an offset of a whole table. P holds of where the table begins, of its bytes, and of the offset.
abbrev pub InWhole : List ℕ → Option Span → (ℕ → List ℕ → ℕ → Type 0) → ℕ → Type 0
InWhole image named P place =
    (table : Span) × (bytes : List ℕ) × IsWhole image named table bytes
    × (offset : ℕ) × (place ≡ table.start + offset) × P table.start bytes offset

-- of the table of the first command with this cmd, in an image that breaks no rule of the headers
abbrev pub InTable : List ℕ → ℕ → (ℕ → List ℕ → ℕ → Type 0) → ℕ → Type 0
InTable image cmd P place = Opens image × InWhole image (named_table image cmd) P place
