-- The load commands that mach-o/loader.h defines and no rule of the layout judges: what each of them has.
use Rattle.std.specs.Prelude.{ℕ, ◌+◌, ◌≤◌, ◌==◌, ⊤, List, [], ◌∷◌, find, Option, Bool}
use Rattle.std.specs.List.{list_any}
use Rattle.std.specs.Option.{option_map}
use Rattle.macho_fields.specs.LoadCommands.{word_table, hint_table, linkedit_data_table, width_size, AreFieldsInside}
use Rattle.macho_fields.specs.declared.load_command.TableFields.{TableFields}
use Rattle.macho_fields.specs.declared.load_command.Width.TheVariants.{Uint32, Uint64}
use Rattle.macho_commands.specs.declared.content.Content.{Content}
use Rattle.macho_commands.specs.declared.content.Holding.{Holding}
use Rattle.macho_commands.specs.declared.content.Holding.TheVariants as holding
use Rattle.macho_fields.specs.declared.header.loader.TheConstants as loader

pub record HeldCommand : Type 0 where
  pub cmd : ℕ
  pub content : Content

-- by its cmd, the size of its structure in bytes, and what it holds besides
abbrev pub held : ℕ → ℕ → Holding → HeldCommand
held cmd size what = record { cmd = cmd; content = record { size = size; holding = what } }

-- symseg_command: offset and size, in bytes
abbrev pub symbol_segment : TableFields
symbol_segment = word_table 8 12 1

-- the held commands, in the order of their numbers
abbrev pub held_commands : List HeldCommand
held_commands =
    held loader.LC_SYMSEG 16 (holding.Range symbol_segment)
    ∷ held loader.LC_LOADFVMLIB 20 holding.Name
    ∷ held loader.LC_IDFVMLIB 20 holding.Name
    ∷ held loader.LC_IDENT 8 holding.Strings
    ∷ held loader.LC_FVMFILE 16 holding.Name
    ∷ held loader.LC_PREPAGE 8 holding.Nothing
    ∷ held loader.LC_PREBOUND_DYLIB 20 holding.NameAndModules
    ∷ held loader.LC_ROUTINES 40 (holding.Routine Uint32)
    ∷ held loader.LC_SUB_FRAMEWORK 12 holding.Name
    ∷ held loader.LC_SUB_UMBRELLA 12 holding.Name
    ∷ held loader.LC_SUB_CLIENT 12 holding.Name
    ∷ held loader.LC_SUB_LIBRARY 12 holding.Name
    ∷ held loader.LC_TWOLEVEL_HINTS 16 (holding.Range hint_table)
    ∷ held loader.LC_PREBIND_CKSUM 12 holding.Nothing
    ∷ held loader.LC_ROUTINES_64 72 (holding.Routine Uint64)
    ∷ held loader.LC_VERSION_MIN_MACOSX 16 holding.Nothing
    ∷ held loader.LC_VERSION_MIN_IPHONEOS 16 holding.Nothing
    ∷ held loader.LC_SOURCE_VERSION 16 holding.Nothing
    ∷ held loader.LC_LINKER_OPTION 12 holding.CountedStrings
    ∷ held loader.LC_VERSION_MIN_TVOS 16 holding.Nothing
    ∷ held loader.LC_VERSION_MIN_WATCHOS 16 holding.Nothing
    ∷ held loader.LC_ATOM_INFO 16 (holding.Range linkedit_data_table)
    ∷ held loader.LC_FUNCTION_VARIANTS 16 (holding.Range linkedit_data_table)
    ∷ held loader.LC_FUNCTION_VARIANT_FIXUPS 16 (holding.Range linkedit_data_table)
    ∷ held loader.LC_TARGET_TRIPLE 12 holding.Name
    ∷ []

-- what a held command has, by its cmd
abbrev pub content_of : ℕ → Option Content
content_of cmd =
    option_map (λ command. command.content) (find (λ command. command.cmd == cmd) held_commands)

-- the commands for no image of this kind: the commands of 32-bit images, and of a set of images
abbrev pub foreign_cmds : List ℕ
foreign_cmds = loader.LC_SEGMENT ∷ loader.LC_ENCRYPTION_INFO ∷ loader.LC_FILESET_ENTRY ∷ []

abbrev pub is_foreign : ℕ → Bool
is_foreign cmd = list_any (λ foreign. foreign == cmd) foreign_cmds

-- the fields that say what a command holds lie in its structure: lc_str at 8, linked_modules at 16, count at 8, those
-- of the range, init_address at 8
abbrev pub FieldsEndBy : ℕ → Holding → Type 0
FieldsEndBy size holding.Name = 12 ≤ size
FieldsEndBy size holding.NameAndModules = 20 ≤ size
FieldsEndBy size holding.CountedStrings = 12 ≤ size
FieldsEndBy size (holding.Range table) = AreFieldsInside size table
FieldsEndBy size (holding.Routine width) = 8 + width_size width ≤ size
FieldsEndBy size other = ⊤

abbrev pub HasFields : Content → Type 0
HasFields content = FieldsEndBy content.size content.holding
