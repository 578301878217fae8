-- The tables that loaders look for by commands, and where they lie. (mach-o/loader.h: dyld_info_command,
-- linkedit_data_command, symtab_command, dysymtab_command, encryption_info_command_64, segment_command_64)
use Rattle.std.specs.Prelude.{◌≡◌, ◌≢◌, ℕ, ◌*◌, ◌<◌, ◌⊎◌, List, Any, Contains, true, false, IsSomeAnd}
use Rattle.std.specs.List.{find}
use Rattle.macho_fields.specs.Image.{command_cmd, commands_of}
use Rattle.macho_fields.specs.LoadCommands.{symbol_table, string_table, indirect_table}
use Rattle.macho_fields.specs.Segment.{all_segments, vmaddr, vmsize, fileoff, filesize, shows_start}
use Rattle.macho_fields.specs.Symbol.{table_at, tables_of}
use Rattle.macho_fields.specs.declared.header.loader.TheConstants as loader
use Rattle.macho_tables.specs.Kinds.{names_linked_data}
use Rattle.macho_tables.specs.Segments.{is_constant, is_protected, IsLinkedit, IsText}
use Rattle.macho_spans.specs.Span.{IsInside, Shares}
use Rattle.macho_spans.specs.declared.span.Span.{Span}

-- the bytes that a segment has in the file
abbrev pub bytes_of_segment : List ℕ → ℕ → Span
bytes_of_segment image segment =
    record { start = fileoff image segment; len = filesize image segment }

-- A segment is a home of some bytes: it is mapped, can be read and not written, is not decrypted, and
-- they are among its bytes in the file.
abbrev pub IsHome : Span → List ℕ → ℕ → Type 0
IsHome table image segment =
    (0 < vmsize image segment) × (is_constant image segment ≡ true)
    × (is_protected image segment ≡ false) × IsInside table (bytes_of_segment image segment)

-- loaders look for them in the segment, and it is not a home of them
abbrev pub IsAstray : Span → List ℕ → ℕ → Type 0
IsAstray table image segment = IsLinkedit image segment × ¬ IsHome table image segment

-- the bytes of a table whose items are bytes
abbrev pub bytes_of_table : ℕ × ℕ × ℕ → Span
bytes_of_table table = record { start = table.0; len = table.1 }

-- LC_ENCRYPTION_INFO_64: the command has a range of encrypted bytes, and one of them is in the span
abbrev pub Encrypts : Span → List ℕ → ℕ → Type 0
Encrypts table image command =
    (command_cmd image command ≡ loader.LC_ENCRYPTION_INFO_64)
    × Any (λ range. Shares (bytes_of_table range) table) (tables_of image command)

-- Loaders find these bytes as they are in the file: there is a segment in which they look, each is a
-- home of the bytes, and none of them is encrypted.
abbrev pub HasHome : Span → List ℕ → Type 0
HasHome table image =
    Any (IsLinkedit image) (all_segments image) × (¬ Any (IsAstray table image) (all_segments image))
    × (¬ Any (Encrypts table image) (commands_of image))

-- the bytes of a table are some, and have no home
abbrev pub LacksHome : List ℕ → Span → Type 0
LacksHome image table = (0 < table.len) × ¬ HasHome table image

abbrev pub IsHomeless : List ℕ → ℕ × ℕ × ℕ → Type 0
IsHomeless image table = LacksHome image (bytes_of_table table)

-- the command names such a table of linked data
abbrev pub HasHomeless : List ℕ → ℕ → Type 0
HasHomeless image command =
    (names_linked_data (command_cmd image command) ≡ true)
    × Any (IsHomeless image) (tables_of image command)

-- the bytes of a table whose items have any size
abbrev pub bytes_of_items : ℕ × ℕ × ℕ → Span
bytes_of_items table = record { start = table.0; len = table.1 * table.2 }

-- symtab_command: its symbols or its strings have none
abbrev pub LosesSymbols : List ℕ → ℕ → Type 0
LosesSymbols image symtab =
    LacksHome image (bytes_of_items (table_at image symtab symbol_table))
    ⊎ LacksHome image (bytes_of_items (table_at image symtab string_table))

-- dysymtab_command: its indirect entries have none. Loaders look for no other of its tables.
abbrev pub LosesIndirects : List ℕ → ℕ → Type 0
LosesIndirects image dysymtab =
    LacksHome image (bytes_of_items (table_at image dysymtab indirect_table))

-- the command has symbols, strings or indirect entries without a home
abbrev pub HasHomelessSymbols : List ℕ → ℕ → Type 0
HasHomelessSymbols image command =
    ((command_cmd image command ≡ loader.LC_SYMTAB) × LosesSymbols image command)
    ⊎ ((command_cmd image command ≡ loader.LC_DYSYMTAB) × LosesIndirects image command)

-- the command names a table that loaders look for, and that has no home
abbrev pub HasLost : List ℕ → ℕ → Type 0
HasLost image command = HasHomeless image command ⊎ HasHomelessSymbols image command

-- the rule table-home, at the place of a command
abbrev pub BreaksTableHome : List ℕ → ℕ → Type 0
BreaksTableHome image place = Contains (commands_of image) place × HasLost image place

-- loaders take the segment for the one with the base, and it has another address
abbrev pub IsTextElsewhere : ℕ → List ℕ → ℕ → Type 0
IsTextElsewhere base image segment = IsText image segment × (vmaddr image segment ≢ base)

-- Loaders, which go by the name, take this address for the base: there is such a segment, and each has it.
abbrev pub HasTextAt : List ℕ → ℕ → Type 0
HasTextAt image base =
    Any (IsText image) (all_segments image) × ¬ Any (IsTextElsewhere base image) (all_segments image)

-- the segment can be read and not written, and loaders take its address for the base
abbrev pub IsSafeBase : List ℕ → ℕ → Type 0
IsSafeBase image segment = (is_constant image segment ≡ true) × HasTextAt image (vmaddr image segment)

-- the image has a base, and it is the address of such a segment
abbrev pub HasSafeBase : List ℕ → Type 0
HasSafeBase image = IsSomeAnd (find (shows_start image) (all_segments image)) (IsSafeBase image)

-- the rule header-home, which is broken at the header
abbrev pub BreaksHeaderHome : List ℕ → ℕ → Type 0
BreaksHeaderHome image place = (place ≡ 0) × ¬ HasSafeBase image
