-- The entries of the data of LC_DATA_IN_CODE, and where they break their rule. A place is an offset in the data.
-- (mach-o/loader.h: data_in_code_entry, of 8 bytes)
use Rattle.std.specs.Prelude.{◌≡◌, ◌≢◌, ℕ, ◌+◌, ◌*◌, ◌/◌, ◌%◌, ◌<◌, ◌⊎◌, List, [], ◌∷◌, length, Any, Bool, true, false}
use Rattle.macho_tables.specs.Fields.{half}
use Rattle.macho_fields.specs.Image.{word}
use Rattle.macho_fields.specs.Segment.{all_segments}
use Rattle.macho_fields.specs.declared.header.loader.TheConstants as loader
use Rattle.macho_tables.specs.DataTables.{InDataTable}
use Rattle.macho_tables.specs.Homes.{bytes_of_segment}
use Rattle.macho_tables.specs.Items.{AtItem}
use Rattle.macho_tables.specs.Kinds.{is_one_of}
use Rattle.macho_tables.specs.declared.data_in_code.DataInCodeEntry.{DataInCodeEntry}
use Rattle.macho_spans.specs.Span.{IsInside}
use Rattle.macho_spans.specs.declared.span.Span.{Span}
use Rattle.macho_strict.specs.Unclaimed.{is_code}

-- data_in_code_entry: offset at 0, length of 2 bytes at 4, kind of 2 bytes at 6
abbrev pub entry_at : List ℕ → ℕ → DataInCodeEntry
entry_at bytes place = record {
  offset = word bytes place;
  length = half bytes (place + 4);
  kind = half bytes (place + 6);
}

-- the kind has a meaning
abbrev pub is_known_kind : ℕ → Bool
is_known_kind =
    is_one_of
    (loader.DICE_KIND_DATA ∷ loader.DICE_KIND_JUMP_TABLE8 ∷ loader.DICE_KIND_JUMP_TABLE16
    ∷ loader.DICE_KIND_JUMP_TABLE32 ∷ loader.DICE_KIND_ABS_JUMP_TABLE32 ∷ [])

-- what the entry describes: so many bytes of the image, from the offset on
abbrev pub bytes_of_entry : DataInCodeEntry → Span
bytes_of_entry entry = record { start = entry.offset; len = entry.length }

-- the segment may be executed, and the bytes are among its bytes in the file
abbrev pub IsCodeOf : List ℕ → Span → ℕ → Type 0
IsCodeOf image bytes segment = (is_code image segment ≡ true) × IsInside bytes (bytes_of_segment image segment)

-- there are bytes, and they are not all in the file bytes of one such segment
abbrev pub LiesOutsideCode : List ℕ → Span → Type 0
LiesOutsideCode image bytes = (0 < bytes.len) × ¬ Any (IsCodeOf image bytes) (all_segments image)

-- the kind of the entry has no meaning, or its bytes are not in code
abbrev pub IsBadEntry : List ℕ → DataInCodeEntry → Type 0
IsBadEntry image entry = (is_known_kind entry.kind ≡ false) ⊎ LiesOutsideCode image (bytes_of_entry entry)

-- the size of the table is not a multiple of an entry's
abbrev pub HasRest : List ℕ → Type 0
HasRest table = length table % loader.DATA_IN_CODE_ENTRY_SIZE ≢ 0

-- how many whole entries it has
abbrev pub entry_count : List ℕ → ℕ
entry_count table = length table / loader.DATA_IN_CODE_ENTRY_SIZE

-- where an entry is
abbrev pub entry_place : ℕ → ℕ
entry_place k = k * loader.DATA_IN_CODE_ENTRY_SIZE

-- the rule of an image and the bytes of its table
abbrev pub BadEntry : List ℕ → List ℕ → ℕ → Type 0
BadEntry image table place =
    ((place ≡ 0) × HasRest table)
    ⊎ AtItem entry_place (entry_count table) (λ k. IsBadEntry image (entry_at table (entry_place k))) place

-- the rule data-in-code
abbrev pub BreaksDataInCode : List ℕ → ℕ → Type 0
BreaksDataInCode image place = InDataTable image loader.LC_DATA_IN_CODE BadEntry place
