-- The fixups of an image and what they import, whichever of its commands has them: its chains if it has an
-- LC_DYLD_CHAINED_FIXUPS, as a loader takes them, otherwise its opcodes. (mach-o/loader.h: linkedit_data_command)
use Rattle.std.specs.Prelude.{◌≡◌, ℕ, pos, List, [], Option, Some}
use Rattle.std.specs.Option.{option_map_or}
use Rattle.macho_fields.specs.Bytes.{bytes_of}
use Rattle.macho_fields.specs.declared.header.loader.TheConstants as loader
use Rattle.macho_chains.specs.ChainHeader.{chain_header}
use Rattle.macho_rows.specs.Linkedit.{dataoff, datasize}
use Rattle.macho_rows.specs.Loads.{first_wanted}
use Rattle.macho_rows.specs.Spans.{part_or_none}
use Rattle.macho_rows.specs.declared.load.Wanted.TheVariants as wanted
use Rattle.macho_rows.specs.declared.span.Held.{Held}
use Rattle.macho_fixups.specs.ChainedFixups as chained
use Rattle.macho_fixups.specs.ChainedImports as imported
use Rattle.macho_fixups.specs.Locations.{near_room}
use Rattle.macho_fixups.specs.Opcodes as opcodes
use Rattle.macho_fixups.specs.Opcodes.{fixups_of, imports_of}
use Rattle.macho_fixups.specs.Streams.{all_streams, bind_streams, part_place, stream_bytes, stream_place, writes_in}
use Rattle.macho_fixups.specs.Walks.{no_walk}
use Rattle.macho_fixups.specs.declared.cursor.KesvuotFixupCursor.{KesvuotFixupCursor}
use Rattle.macho_fixups.specs.declared.row.KesvuotFixup.{KesvuotFixup}
use Rattle.macho_fixups.specs.declared.row.KesvuotImport.{KesvuotImport}

-- Opcodes

abbrev pub opcode_fixups_left : List ℕ → KesvuotFixupCursor → List KesvuotFixup
opcode_fixups_left image cursor = opcodes.fixups_left image (near_room image) (stream_bytes image) cursor

abbrev pub opcode_imports_left : ℕ → List ℕ → KesvuotFixupCursor → List KesvuotImport
opcode_imports_left place image cursor = opcodes.imports_left (stream_place place image) (stream_bytes image) cursor

-- all of them: of the four streams, and of the three that bind
abbrev pub opcode_fixups : List ℕ → List KesvuotFixup
opcode_fixups image = fixups_of image (near_room image) 0 (writes_in (stream_bytes image) all_streams 0 no_walk)

abbrev pub opcode_imports : ℕ → List ℕ → List KesvuotImport
opcode_imports place image =
    imports_of (stream_place place image) (stream_bytes image) (writes_in (stream_bytes image) bind_streams 0 no_walk)

-- Chains: none without a known header

abbrev pub chained_fixups_left : ℕ → List ℕ → List ℕ → KesvuotFixupCursor → List KesvuotFixup
chained_fixups_left base image table cursor =
    option_map_or (λ header. chained.fixups_left image base table header cursor) (chain_header table) []

abbrev pub chained_imports_left : ℕ → List ℕ → KesvuotFixupCursor → List KesvuotImport
chained_imports_left place table cursor =
    option_map_or (λ header. imported.imports_left place table header cursor) (chain_header table) []

-- the command that names the table of the chained fixups
abbrev pub chain_command : List ℕ → Option ℕ
chain_command image = first_wanted (wanted.LinkeditData loader.LC_DYLD_CHAINED_FIXUPS) image

-- the bytes of the table, none where they do not all lie in the image, and where they begin in the file
abbrev pub chain_bytes : List ℕ → ℕ → List ℕ
chain_bytes image command = part_or_none (dataoff image command) (datasize image command) image

abbrev pub chain_place : ℕ → List ℕ → ℕ → ℕ
chain_place place image command = part_place place (dataoff image command) (datasize image command) image

-- the table that was read is the one of the command
abbrev pub IsChainTable : ℕ → List ℕ → Held → Type 0
IsChainTable place image table =
    (command : ℕ) × (chain_command image ≡ Some command) × (bytes_of table.bytes ≡ chain_bytes image command)
    × (table.place ≡ chain_place place image command)

-- What remains at a cursor, which at first is of zeros

abbrev pub start : KesvuotFixupCursor
start = record {
  stream = 0;
  place = 0;
  commands = 0;
  segment = 0;
  offset = 0;
  page = 0;
  left = 0;
  skip = 0;
  name = 0;
  name_size = 0;
  library = pos 0;
  addend = pos 0;
  import = 0;
  flags = 0;
  is_new = 0;
  has_segment = 0;
  has_name = 0;
}

abbrev pub fixups_left : ℕ → List ℕ → KesvuotFixupCursor → List KesvuotFixup
fixups_left base image =
    option_map_or (λ command. chained_fixups_left base image (chain_bytes image command)) (chain_command image)
    (opcode_fixups_left image)

abbrev pub imports_left : ℕ → List ℕ → KesvuotFixupCursor → List KesvuotImport
imports_left place image =
    option_map_or (λ command. chained_imports_left (chain_place place image command) (chain_bytes image command))
    (chain_command image) (opcode_imports_left place image)

-- All of an image: at first these remain

abbrev pub chained_fixups : ℕ → List ℕ → List ℕ → List KesvuotFixup
chained_fixups base image table =
    option_map_or (λ header. chained.all_fixups image base table header) (chain_header table) []

abbrev pub chained_imports : ℕ → List ℕ → List KesvuotImport
chained_imports place table =
    option_map_or (λ header. imported.imports_up_to header.imports_count place table header 0 0) (chain_header table) []

abbrev pub all_fixups : ℕ → List ℕ → List KesvuotFixup
all_fixups base image =
    option_map_or (λ command. chained_fixups base image (chain_bytes image command)) (chain_command image)
    (opcode_fixups image)

abbrev pub all_imports : ℕ → List ℕ → List KesvuotImport
all_imports place image =
    option_map_or (λ command. chained_imports (chain_place place image command) (chain_bytes image command))
    (chain_command image) (opcode_imports place image)
