-- The load commands that are judged: the structure of each, and what the structure has.
-- (mach-o/loader.h; mach-o/nlist.h: nlist_64; mach-o/reloc.h: relocation_info)
use Rattle.std.specs.Prelude.{◌≡◌, ℕ, ◌+◌, ◌≤◌, ◌==◌, List, [], ◌∷◌, find, map, Option, Some, None}
use Rattle.std.specs.Prelude.{if◌then◌else◌}
use Rattle.std.specs.Prelude.{Bool, IsTrue, true, false}
use Rattle.std.specs.List.{list_any, position}
use Rattle.std.specs.Option.{option_map, option_map_or, option_or}
use Rattle.macho_fields.specs.declared.load_command.Layout.{Layout}
use Rattle.macho_fields.specs.declared.load_command.Records.{Records}
use Rattle.macho_fields.specs.declared.load_command.Structure.{Structure}
use Rattle.macho_fields.specs.declared.load_command.Structure.TheVariants as structure
use Rattle.macho_fields.specs.declared.load_command.TableFields.{TableFields}
use Rattle.macho_fields.specs.declared.load_command.Width.{Width}
use Rattle.macho_fields.specs.declared.load_command.Width.TheVariants.{Uint32, Uint64}
use Rattle.macho_fields.specs.declared.header.loader.TheConstants as loader
use Rattle.macho_fields.specs.declared.header.nlist.TheConstants as nlist
use Rattle.macho_fields.specs.declared.header.reloc.TheConstants as reloc

-- The listed commands, each with its cmd and its structure. Both lists are in the order of the
-- numbers.

pub record LoadCommand : Type 0 where
  pub cmd : ℕ
  pub structure : Structure

abbrev pub listed : ℕ → Structure → LoadCommand
listed cmd structure = record { cmd = cmd; structure = structure }

-- those that an image has at most once
abbrev pub unique_commands : List LoadCommand
unique_commands =
    listed loader.LC_SYMTAB structure.SymtabCommand
    ∷ listed loader.LC_DYSYMTAB structure.DysymtabCommand
    ∷ listed loader.LC_ID_DYLIB structure.DylibCommand
    ∷ listed loader.LC_UUID structure.UuidCommand
    ∷ listed loader.LC_MAIN structure.EntryPointCommand
    ∷ []

-- those that it may have any number of times
abbrev pub repeatable_commands : List LoadCommand
repeatable_commands =
    listed loader.LC_LOAD_DYLIB structure.DylibCommand
    ∷ listed loader.LC_LOAD_DYLINKER structure.DylinkerCommand
    ∷ listed loader.LC_ID_DYLINKER structure.DylinkerCommand
    ∷ listed loader.LC_SEGMENT_64 structure.SegmentCommand64
    ∷ listed loader.LC_CODE_SIGNATURE structure.LinkeditDataCommand
    ∷ listed loader.LC_SEGMENT_SPLIT_INFO structure.LinkeditDataCommand
    ∷ listed loader.LC_LAZY_LOAD_DYLIB structure.DylibCommand
    ∷ listed loader.LC_DYLD_INFO structure.DyldInfoCommand
    ∷ listed loader.LC_FUNCTION_STARTS structure.LinkeditDataCommand
    ∷ listed loader.LC_DYLD_ENVIRONMENT structure.DylinkerCommand
    ∷ listed loader.LC_DATA_IN_CODE structure.LinkeditDataCommand
    ∷ listed loader.LC_DYLIB_CODE_SIGN_DRS structure.LinkeditDataCommand
    ∷ listed loader.LC_ENCRYPTION_INFO_64 structure.EncryptionInfoCommand64
    ∷ listed loader.LC_LINKER_OPTIMIZATION_HINT structure.LinkeditDataCommand
    ∷ listed loader.LC_NOTE structure.NoteCommand
    ∷ listed loader.LC_BUILD_VERSION structure.BuildVersionCommand
    ∷ listed loader.LC_LOAD_WEAK_DYLIB structure.DylibCommand
    ∷ listed loader.LC_RPATH structure.RpathCommand
    ∷ listed loader.LC_REEXPORT_DYLIB structure.DylibCommand
    ∷ listed loader.LC_DYLD_INFO_ONLY structure.DyldInfoCommand
    ∷ listed loader.LC_LOAD_UPWARD_DYLIB structure.DylibCommand
    ∷ listed loader.LC_DYLD_EXPORTS_TRIE structure.LinkeditDataCommand
    ∷ listed loader.LC_DYLD_CHAINED_FIXUPS structure.LinkeditDataCommand
    ∷ []

-- the line of the lists for a cmd
abbrev pub load_command_of : ℕ → Option LoadCommand
load_command_of cmd =
    option_or (find (λ command. command.cmd == cmd) unique_commands)
    (find (λ command. command.cmd == cmd) repeatable_commands)

-- the structure of a listed command, by its cmd
abbrev pub structure_of : ℕ → Option Structure
structure_of cmd = option_map (λ command. command.structure) (load_command_of cmd)

-- the cmds that at most one command of an image has
abbrev pub unique_cmds : List ℕ
unique_cmds = map (λ command. command.cmd) unique_commands

-- where a cmd stands among them
abbrev pub unique_index : ℕ → Option ℕ
unique_index cmd = position (λ command. command.cmd == cmd) unique_commands

-- an image has at most one command with this cmd
abbrev pub IsUnique : ℕ → Type 0
IsUnique cmd = IsTrue (list_any (λ command. command.cmd == cmd) unique_commands)

-- a command with this cmd names a library: its structure is dylib_command
abbrev pub is_dylib_command : Structure → Bool
is_dylib_command structure.DylibCommand = true
is_dylib_command other = false

abbrev pub names_library : ℕ → Bool
names_library cmd = option_map_or is_dylib_command (structure_of cmd) false

-- Records that follow a structure: the offset of the 32-bit field with their number, and the size of one

-- segment_command_64: nsects, of section_64
abbrev pub section_records : Records
section_records = record { count = 64; size = loader.SECTION_64_SIZE }

-- build_version_command: ntools, of build_tool_version
abbrev pub tool_records : Records
tool_records = record { count = 20; size = loader.BUILD_TOOL_VERSION_SIZE }

-- the width of a field in bytes
abbrev pub width_size : Width → ℕ
width_size Uint32 = 4
width_size Uint64 = 8

-- the two fields that bound a table lie in the first bytes of a command, so many
abbrev pub AreFieldsInside : ℕ → TableFields → Type 0
AreFieldsInside size fields =
    (fields.place + width_size fields.width ≤ size)
    × (fields.count + width_size fields.width ≤ size)

-- Tables of the image that the fields of a structure bound: the offset of the field with the place of
-- the table, the offset of the field with the number of its items, and the size of an item. Both fields have
-- one width.

-- a table whose two fields are words of 32 bits
abbrev pub word_table : ℕ → ℕ → ℕ → TableFields
word_table place count item_size = record {
  place = place;
  count = count;
  width = Uint32;
  item_size = item_size;
}

-- a table whose two fields are of 64 bits
abbrev pub long_table : ℕ → ℕ → ℕ → TableFields
long_table place count item_size = record {
  place = place;
  count = count;
  width = Uint64;
  item_size = item_size;
}

-- symtab_command: symoff and nsyms, of nlist_64
abbrev pub symbol_table : TableFields
symbol_table = word_table 8 12 nlist.NLIST_64_SIZE

-- stroff and strsize, in bytes
abbrev pub string_table : TableFields
string_table = word_table 16 20 1

-- dysymtab_command: tocoff and ntoc, of dylib_table_of_contents
abbrev pub contents_table : TableFields
contents_table = word_table 32 36 loader.DYLIB_TABLE_OF_CONTENTS_SIZE

-- modtaboff and nmodtab, of dylib_module_64
abbrev pub module_table : TableFields
module_table = word_table 40 44 loader.DYLIB_MODULE_64_SIZE

-- extrefsymoff and nextrefsyms, of dylib_reference
abbrev pub reference_table : TableFields
reference_table = word_table 48 52 loader.DYLIB_REFERENCE_SIZE

-- indirectsymoff and nindirectsyms, of indices of symbols
abbrev pub indirect_table : TableFields
indirect_table = word_table 56 60 loader.INDIRECT_ENTRY_SIZE

-- extreloff and nextrel, of relocation_info
abbrev pub external_relocations : TableFields
external_relocations = word_table 64 68 reloc.RELOCATION_INFO_SIZE

-- locreloff and nlocrel, of relocation_info
abbrev pub local_relocations : TableFields
local_relocations = word_table 72 76 reloc.RELOCATION_INFO_SIZE

-- linkedit_data_command: dataoff and datasize, in bytes
abbrev pub linkedit_data_table : TableFields
linkedit_data_table = word_table 8 12 1

-- dyld_info_command: rebase_off and rebase_size, bind_off and bind_size, weak_bind_off and
-- weak_bind_size, lazy_bind_off and lazy_bind_size, export_off and export_size, in bytes
abbrev pub dyld_info_tables : List TableFields
dyld_info_tables =
    word_table 8 12 1 ∷ word_table 16 20 1 ∷ word_table 24 28 1 ∷ word_table 32 36 1
    ∷ word_table 40 44 1 ∷ []

-- encryption_info_command_64: cryptoff and cryptsize, in bytes
abbrev pub encrypted_table : TableFields
encrypted_table = word_table 8 12 1

-- twolevel_hints_command: offset and nhints, of twolevel_hint
abbrev pub hint_table : TableFields
hint_table = word_table 8 12 loader.TWOLEVEL_HINT_SIZE

-- note_command: offset and size, in bytes
abbrev pub note_table : TableFields
note_table = long_table 24 32 1

-- What a structure has. A name, whose offset is the lc_str at 8 of the structure, follows it in the
-- command: dylib_command.dylib.name, dylinker_command.name, rpath_command.path. Records follow too.
pub record StructureLayout : Type 0 where
  pub size : ℕ
  pub is_named : Bool
  pub records : Option Records
  pub tables : List TableFields

abbrev pub plain : ℕ → StructureLayout
plain size = record { size = size; is_named = false; records = None; tables = [] }

abbrev pub named : ℕ → StructureLayout
named size = record { size = size; is_named = true; records = None; tables = [] }

abbrev pub with_records : ℕ → Records → StructureLayout
with_records size records = record { size = size; is_named = false; records = Some records; tables = [] }

abbrev pub with_tables : ℕ → List TableFields → StructureLayout
with_tables size tables = record { size = size; is_named = false; records = None; tables = tables }

-- the structures, each by its size in bytes and by what it has besides
abbrev pub layout_of : Structure → StructureLayout
layout_of structure.SymtabCommand = with_tables 24 (symbol_table ∷ string_table ∷ [])
layout_of structure.DysymtabCommand =
    with_tables 80
    (contents_table ∷ module_table ∷ reference_table ∷ indirect_table ∷ external_relocations
    ∷ local_relocations ∷ [])
layout_of structure.DylibCommand = named 24
layout_of structure.DylinkerCommand = named 12
layout_of structure.RpathCommand = named 12
layout_of structure.SegmentCommand64 = with_records loader.SEGMENT_COMMAND_64_SIZE section_records
layout_of structure.UuidCommand = plain 24
layout_of structure.LinkeditDataCommand =
    with_tables loader.LINKEDIT_DATA_COMMAND_SIZE (linkedit_data_table ∷ [])
layout_of structure.DyldInfoCommand = with_tables 48 dyld_info_tables
layout_of structure.EncryptionInfoCommand64 = with_tables 24 (encrypted_table ∷ [])
layout_of structure.NoteCommand = with_tables 40 (note_table ∷ [])
layout_of structure.BuildVersionCommand = with_records 24 tool_records
layout_of structure.EntryPointCommand = plain 24

-- the size of a structure in bytes
abbrev pub structure_size : Structure → ℕ
structure_size s = (layout_of s).size

-- a name follows it
abbrev pub has_name : Structure → Bool
has_name s = (layout_of s).is_named

-- the records that follow it
abbrev pub records_of : Structure → Option Records
records_of s = (layout_of s).records

-- the tables that its fields bound
abbrev pub table_fields : Structure → List TableFields
table_fields s = (layout_of s).tables

-- The tables of a command that is not judged, by its cmd. Its structure is twolevel_hints_command or
-- linkedit_data_command, which have one size.
abbrev pub unlisted_tables : ℕ → List TableFields
unlisted_tables cmd =
    if cmd == loader.LC_TWOLEVEL_HINTS then hint_table ∷ []
    else (if cmd == loader.LC_ATOM_INFO then linkedit_data_table ∷ []
    else (if cmd == loader.LC_FUNCTION_VARIANTS then linkedit_data_table ∷ []
    else (if cmd == loader.LC_FUNCTION_VARIANT_FIXUPS then linkedit_data_table ∷ [] else [])))

-- a layout of the code is the structure's
pub record IsLayoutOf (s : Structure) (layout : Layout) : Type 0 where
  pub size : layout.size ≡ structure_size s
  pub named : layout.has_name ≡ has_name s
  pub records : layout.records ≡ records_of s
  pub tables : layout.tables.now ≡ table_fields s
