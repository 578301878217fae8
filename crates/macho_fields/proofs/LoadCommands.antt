-- The structures of load commands: where their fields lie, and what holds of a listed command.
use Rattle.std.proofs.Common.{◌≡◌, ◌==◌, ◌↔◌, ◌&&◌, ℕ, ◌+◌, ◌≤◌, List, [], ◌∷◌, map, Bool, true, false, Option, Some, None, All, Contains, get_or, refl, sym, ap, ◌∙◌, subst, lit≤, lit<, inl, inr}
use Rattle.std.specs.Prelude.{nat_le}
use Rattle.std.specs.List.{list_all}
use Rattle.std.specs.Option.{option_map_or}
use Rattle.std.proofs.lemmas.Bool.{cases_Bool, true≢false, leb-true, le-leb, and_parts}
use Rattle.std.proofs.lemmas.List.Sums.{AllPass-from_list_all}
use Rattle.macho_fields.specs.LoadCommands.{structure_of, structure_size, has_name, names_library, is_dylib_command, width_size, AreFieldsInside, table_fields, unlisted_tables, hint_table, symbol_table, string_table, indirect_table, linkedit_data_table}
use Rattle.macho_fields.specs.Image.{word, command_cmd, command_size}
use Rattle.macho_fields.specs.Command.{HasStructure, record_count}
use Rattle.macho_fields.specs.Symbol.{table_at, tables_of}
use Rattle.macho_fields.specs.declared.header.loader.TheConstants as loader
use Rattle.macho_fields.specs.declared.load_command.Structure.{Structure}
use Rattle.macho_fields.specs.declared.load_command.Structure.TheVariants as structure
use Rattle.macho_fields.specs.declared.load_command.TableFields.{TableFields}
use Rattle.macho_fields.proofs.Lists.{contains_mapped}
use Rattle.macho_fields.proofs.Options.{some_has, of_some, of_none}

abbrev are_inside : ℕ → TableFields → Bool
are_inside size fields = nat_le (fields.place + width_size fields.width) size && nat_le (fields.count + width_size fields.width) size

all_inside : (s : Structure) → list_all (are_inside (structure_size s)) (table_fields s) ≡ true
all_inside structure.SymtabCommand = refl
all_inside other = refl

all_inside_of : (size : ℕ) (tables : List TableFields) → list_all (are_inside size) tables ≡ true → All (AreFieldsInside size) tables
all_inside_of size tables all k d less =
    let fields = get_or tables k d in
    let both = and_parts (nat_le (fields.place + width_size fields.width) size) (nat_le (fields.count + width_size fields.width) size) (AllPass-from_list_all (are_inside size) tables all k d less) in
    (leb-true (fields.place + width_size fields.width) size both.0, leb-true (fields.count + width_size fields.width) size both.1)

-- the fields that bound the tables of a command lie in its structure
pub fields_inside : (s : Structure) → All (AreFieldsInside (structure_size s)) (table_fields s)
fields_inside s = all_inside_of (structure_size s) (table_fields s) (all_inside s)

-- what holds of hints, of data and of none holds of the tables of each command that is not judged
pub unlisted_each : (P : List TableFields → Type 0) → P (hint_table ∷ []) → P (linkedit_data_table ∷ []) → P [] → (cmd : ℕ) → P (unlisted_tables cmd)
unlisted_each P hints linkedit none cmd = elim (cases_Bool (cmd == loader.LC_TWOLEVEL_HINTS)) [
  | inl t ↦ rw t hints
  | inr a ↦ elim (cases_Bool (cmd == loader.LC_ATOM_INFO)) [
    | inl t ↦ rw (a, t) linkedit
    | inr b ↦ elim (cases_Bool (cmd == loader.LC_FUNCTION_VARIANTS)) [
      | inl t ↦ rw (a, b, t) linkedit
      | inr c ↦ elim (cases_Bool (cmd == loader.LC_FUNCTION_VARIANT_FIXUPS)) [ inl t ↦ rw (a, b, c, t) linkedit | inr d ↦ rw (a, b, c, d) none ]
    ]
  ]
]

-- the fields of a command that is not judged lie in its first bytes
pub unlisted_inside : (cmd : ℕ) → All (AreFieldsInside loader.LINKEDIT_DATA_COMMAND_SIZE) (unlisted_tables cmd)
unlisted_inside cmd = all_inside_of loader.LINKEDIT_DATA_COMMAND_SIZE (unlisted_tables cmd)
    (unlisted_each (λ tables. list_all (are_inside loader.LINKEDIT_DATA_COMMAND_SIZE) tables ≡ true) refl refl refl cmd)

-- the tables of a structure that are spoken of by name
pub symbols_listed : Contains (table_fields structure.SymtabCommand) symbol_table
symbols_listed = (0, lit< tt, refl)

pub strings_listed : Contains (table_fields structure.SymtabCommand) string_table
strings_listed = (1, lit< tt, refl)

pub indirects_listed : Contains (table_fields structure.DysymtabCommand) indirect_table
indirects_listed = (3, lit< tt, refl)

pub linkedit_data_listed : Contains (table_fields structure.LinkeditDataCommand) linkedit_data_table
linkedit_data_listed = (0, lit< tt, refl)

-- a structure with a name has its lc_str, 4 bytes at 8
pub name_inside : (s : Structure) → has_name s ≡ true → 12 ≤ structure_size s
name_inside structure.DylibCommand named = lit≤ tt
name_inside structure.DylinkerCommand named = lit≤ tt
name_inside structure.RpathCommand named = lit≤ tt
name_inside other named = absurd (true≢false (sym named))

-- a command that names a library is a dylib_command
pub library_structure : (cmd : ℕ) → names_library cmd ≡ true → structure_of cmd ≡ Some structure.DylibCommand
library_structure cmd names = of_listed (structure_of cmd) names
  where
    of_listed : (o : Option Structure) → option_map_or is_dylib_command o false ≡ true → o ≡ Some structure.DylibCommand
    of_listed None h = absurd (true≢false (sym h))
    of_listed (Some structure.DylibCommand) h = refl
    of_listed (Some other) h = absurd (true≢false (sym h))

module _ (image : List ℕ) (command : ℕ) where
  -- a count that lies in the command
  pub records_counted : (offset : ℕ) → offset + 4 ≤ command_size image command → record_count image command offset ≡ word image (command + offset)
  records_counted offset inside = rw (le-leb (offset + 4) (command_size image command) inside) refl

  -- the structure of a command, by its cmd
  pub structure_by_cmd : (cmd : ℕ) (o : Option Structure) → command_cmd image command ≡ cmd → structure_of cmd ≡ o → structure_of (command_cmd image command) ≡ o
  structure_by_cmd cmd o is listed = ap structure_of is ∙ listed

  pub tables_listed : (s : Structure) → structure_of (command_cmd image command) ≡ Some s → tables_of image command ≡ map (table_at image command) (table_fields s)
  tables_listed s listed = ap (λ o. option_map_or (λ t. map (table_at image command) (table_fields t)) o []) listed

  pub table_listed : (s : Structure) (fields : TableFields) → structure_of (command_cmd image command) ≡ Some s → Contains (table_fields s) fields
      → Contains (tables_of image command) (table_at image command fields)
  table_listed s fields listed has =
      subst (λ tables. Contains tables (table_at image command fields)) (sym (tables_listed s listed)) (contains_mapped (table_at image command) (table_fields s) fields has)

  pub tables_unlisted : structure_of (command_cmd image command) ≡ None → tables_of image command ≡ []
  tables_unlisted none = ap (λ o. option_map_or (λ t. map (table_at image command) (table_fields t)) o []) none

  -- what holds of the structure of a listed command
  pub has_structure : (P : Structure → Type 0) (s : Structure) → structure_of (command_cmd image command) ≡ Some s → HasStructure image command P ↔ P s
  has_structure P s listed = (some_has P (structure_of (command_cmd image command)) s listed, of_some P (structure_of (command_cmd image command)) s listed)

  pub has_no_structure : (P : Structure → Type 0) → structure_of (command_cmd image command) ≡ None → ¬ HasStructure image command P
  has_no_structure P none = of_none P (structure_of (command_cmd image command)) none
