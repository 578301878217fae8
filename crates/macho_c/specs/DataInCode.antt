-- The data in the code of an image, by its first LC_DATA_IN_CODE. (mach-o/loader.h: data_in_code_entry)
use Rattle.std.specs.Prelude.{◌≡◌, ℕ, ◌+◌, ◌/◌, List, [], length, map, MatchOption}
use Rattle.macho_fields.specs.declared.header.loader.TheConstants as loader
use Rattle.macho_image.specs.Symbol.{items_inside}
use Rattle.macho_tables.specs.DataInCode.{entry_at}
use Rattle.macho_rows.specs.Cursor.{begun}
use Rattle.macho_rows.specs.Image.{only}
use Rattle.macho_rows.specs.Linkedit.{dataoff, datasize, named_data}
use Rattle.macho_rows.specs.Spans.{part_or_none, span_of}
use Rattle.macho_rows.specs.declared.cursor.KesvuotCursor.{KesvuotCursor}
use Rattle.macho_c.specs.declared.data_in_code.KesvuotDataInCode.{KesvuotDataInCode}

-- the row of an entry, in an image that begins at `place` in the file: its data is nowhere where it ends
-- past the image
abbrev pub entry_row : ℕ → List ℕ → ℕ → KesvuotDataInCode
entry_row place image entry = record {
  bytes = span_of (place + (entry_at image entry).offset)
      (part_or_none (entry_at image entry).offset (entry_at image entry).length image);
  offset = (entry_at image entry).offset;
  length = (entry_at image entry).length;
  kind = (entry_at image entry).kind;
}

-- before the first entry: all whole ones in the data of the command
abbrev pub first_entry : List ℕ → KesvuotCursor
first_entry image =
    let found = named_data loader.LC_DATA_IN_CODE image in
    record { place = found.0; commands = 0; segment = 0; items = found.1 / 8 }

-- `items` entries from `place` on, and none where they do not all lie inside the image
abbrev pub entries_at : ℕ → List ℕ → KesvuotCursor → List KesvuotDataInCode
entries_at place image cursor =
    map (entry_row place image) (items_inside image cursor.place 8 cursor.items)

-- those that remain at a cursor
abbrev pub entries_left : ℕ → List ℕ → KesvuotCursor → List KesvuotDataInCode
entries_left place image cursor = entries_at place image (begun (first_entry image) cursor)

-- By the image alone: all whole entries in the data of its command, and none where it has no such command.
abbrev pub HasAllEntries : ℕ → List ℕ → List KesvuotDataInCode → Type 0
HasAllEntries place image rows =
    MatchOption (only image loader.LC_DATA_IN_CODE) (rows ≡ []) (λ command.
    (rows ≡ map (entry_row place image)
    (items_inside image (dataoff image command) 8 (datasize image command / 8)))
    × (length rows ≡ datasize image command / 8))
