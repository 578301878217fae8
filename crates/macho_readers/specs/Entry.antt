-- Where a command that says where a program begins breaks its rule. (mach-o/loader.h: entry_point_command,
-- thread_command, data_in_code_entry)
use Rattle.std.specs.Prelude.{◌≡◌, ℕ, ◌+◌, ◌<◌, ◌==◌, ◌||◌, ◌⊎◌, List, [], Any, Contains, IsSomeAnd, Bool, true}
use Rattle.std.specs.Option.{option_map_or}
use Rattle.macho_fields.specs.Field.{part}
use Rattle.macho_fields.specs.Image.{command_cmd, commands_of}
use Rattle.macho_fields.specs.LoadCommands.{linkedit_data_table}
use Rattle.macho_fields.specs.Segment.{all_segments, base_of, entryoff, Supplies, source, File}
use Rattle.macho_fields.specs.Symbol.{table_at}
use Rattle.macho_fields.specs.declared.file_type.Kind.TheVariants as kind
use Rattle.macho_fields.specs.declared.header.loader.TheConstants as loader
use Rattle.macho_commands.specs.Commands.{is_thread, HasEarlier, IsThreadEntry}
use Rattle.macho_image.specs.Command.{first_with_cmd}
use Rattle.macho_image.specs.Header.{IsKind}
use Rattle.macho_spans.specs.Span.{Holds}
use Rattle.macho_tables.specs.DataInCode.{entry_at, entry_place, entry_count, bytes_of_entry}

-- a command with this cmd says where a program begins
abbrev pub is_entry : ℕ → Bool
is_entry cmd = (cmd == loader.LC_MAIN) || is_thread cmd

-- some segment has the byte at this place of the file at the address
abbrev pub HasByteOf : List ℕ → ℕ → ℕ → ℕ → Type 0
HasByteOf image address place segment =
    Supplies image segment address × (source image segment address ≡ File place)

abbrev pub IsFilePlace : List ℕ → ℕ → ℕ → Type 0
IsFilePlace image address place = Any (HasByteOf image address place) (all_segments image)

-- entry_point_command: the entry, which is so far past the base, is the byte that is so far in the file
abbrev pub BeginsAtOffset : List ℕ → ℕ → Type 0
BeginsAtOffset image main =
    IsSomeAnd (base_of image (commands_of image)) (λ base.
    IsFilePlace image (base + entryoff image main) (entryoff image main))

-- an LC_MAIN whose entry a reader that takes the offset for one in the file finds elsewhere
abbrev pub BeginsElsewhere : List ℕ → ℕ → Type 0
BeginsElsewhere image command =
    (command_cmd image command ≡ loader.LC_MAIN) × ¬ BeginsAtOffset image command

-- the command says that a program begins at this address: an LC_MAIN by its offset, and a thread by its registers,
-- where the address has a byte that may be executed
abbrev pub SaysEntry : List ℕ → ℕ → ℕ → Type 0
SaysEntry image command address =
    ((command_cmd image command ≡ loader.LC_MAIN)
    × IsSomeAnd (base_of image (commands_of image)) (λ base. base + entryoff image command ≡ address))
    ⊎ ((is_thread (command_cmd image command) ≡ true) × IsThreadEntry image address)

-- LC_DATA_IN_CODE: the bytes of its entries. An image without the command has no bytes of entries.
abbrev pub data_entries : List ℕ → List ℕ
data_entries image =
    option_map_or (λ command. let table = table_at image command linkedit_data_table in
    part table.0 table.1 image)
    (first_with_cmd image loader.LC_DATA_IN_CODE (commands_of image)) []

-- an entry says that the byte at a place of the file is data
abbrev pub SaysData : List ℕ → ℕ → Type 0
SaysData entries place =
    (k : ℕ) × (k < entry_count entries) × Holds (bytes_of_entry (entry_at entries (entry_place k))) place

-- the segment has a byte at the address, and an entry says that it is data
abbrev pub HasDataAt : List ℕ → ℕ → List ℕ → ℕ → Type 0
HasDataAt entries address image segment =
    (place : ℕ) × HasByteOf image address place segment × SaysData entries place

abbrev pub IsDataAt : List ℕ → List ℕ → ℕ → Type 0
IsDataAt image entries address = Any (HasDataAt entries address image) (all_segments image)

-- the command says that the program begins at a byte that an entry calls data
abbrev pub BeginsAtData : List ℕ → List ℕ → ℕ → Type 0
BeginsAtData entries image command =
    (address : ℕ) × SaysEntry image command address × IsDataAt image entries address

-- an earlier command says where the program begins, or the image is not a program
abbrev pub IsExtraEntry : List ℕ → ℕ → Type 0
IsExtraEntry image command = HasEarlier image is_entry command ⊎ (¬ IsKind image kind.Execute)

-- a reader finds another entry
abbrev pub IsOtherEntry : List ℕ → List ℕ → ℕ → Type 0
IsOtherEntry entries image command = BeginsElsewhere image command ⊎ BeginsAtData entries image command

abbrev pub IsBadEntry : List ℕ → List ℕ → ℕ → Type 0
IsBadEntry entries image command = IsExtraEntry image command ⊎ IsOtherEntry entries image command

-- the command says where a program begins, and must not
unfoldable pub HasBadEntry : List ℕ → List ℕ → ℕ → Type 0
HasBadEntry entries image command =
    (is_entry (command_cmd image command) ≡ true) × IsBadEntry entries image command

-- the rule entry-one, at the place of a command
abbrev pub BreaksEntryOne : List ℕ → ℕ → Type 0
BreaksEntryOne image place =
    Contains (commands_of image) place × HasBadEntry (data_entries image) image place
