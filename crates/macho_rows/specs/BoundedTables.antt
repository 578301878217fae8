-- The tables that load commands bound. (mach-o/loader.h; mach-o/nlist.h: nlist_64; mach-o/reloc.h:
-- relocation_info)
use Rattle.std.specs.Prelude.{◌≡◌, ℕ, ◌+◌, ◌*◌, ◌==◌, List, length, filter, nat_le, if◌then◌else◌, Bool, Option, Some, None, MatchOption, slice_get, true}
use Rattle.std.specs.Option.{option_and_then}
use Rattle.macho_fields.specs.Field.{part}
use Rattle.macho_fields.specs.Image.{command_cmd, commands_of}
use Rattle.macho_fields.specs.LoadCommands.{word_table, symbol_table, string_table, contents_table, module_table, reference_table, indirect_table, external_relocations, local_relocations, encrypted_table}
use Rattle.macho_fields.specs.Symbol.{table_place, item_count}
use Rattle.macho_fields.specs.declared.header.loader.TheConstants as loader
use Rattle.macho_fields.specs.declared.load_command.TableFields.{TableFields}
use Rattle.macho_rows.specs.Loads.{first_wanted, is_dyld_info}
use Rattle.macho_rows.specs.Spans.{span_at, span_of}
use Rattle.macho_rows.specs.declared.bounded_tables.BoundedTable.{BoundedTable}
use Rattle.macho_rows.specs.declared.bounded_tables.BoundedTable.TheVariants as table
use Rattle.macho_rows.specs.declared.bounded_tables.Bounds.{Bounds}
use Rattle.macho_rows.specs.declared.load.Wanted.{Wanted}
use Rattle.macho_rows.specs.declared.load.Wanted.TheVariants as wanted
use Rattle.macho_rows.specs.declared.span.KesvuotSpan.{KesvuotSpan}

abbrev pub bounds : Wanted → TableFields → Bounds
bounds commands fields = record { wanted = commands; fields = fields }

-- the tables, each by its command and the fields of this that bound it; of dyld_info_command: rebase_off and
-- rebase_size, bind_off and bind_size, weak_bind_off and weak_bind_size, lazy_bind_off and lazy_bind_size,
-- export_off and export_size, in bytes
abbrev pub bounds_of : BoundedTable → Bounds
bounds_of table.Symbols = bounds wanted.Symtabs symbol_table
bounds_of table.Strings = bounds wanted.Symtabs string_table
bounds_of table.Contents = bounds wanted.Dysymtabs contents_table
bounds_of table.Modules = bounds wanted.Dysymtabs module_table
bounds_of table.References = bounds wanted.Dysymtabs reference_table
bounds_of table.Indirects = bounds wanted.Dysymtabs indirect_table
bounds_of table.ExternalRelocations = bounds wanted.Dysymtabs external_relocations
bounds_of table.LocalRelocations = bounds wanted.Dysymtabs local_relocations
bounds_of table.Rebase = bounds wanted.DyldInfos (word_table 8 12 1)
bounds_of table.Bind = bounds wanted.DyldInfos (word_table 16 20 1)
bounds_of table.WeakBind = bounds wanted.DyldInfos (word_table 24 28 1)
bounds_of table.LazyBind = bounds wanted.DyldInfos (word_table 32 36 1)
bounds_of table.Export = bounds wanted.DyldInfos (word_table 40 44 1)
bounds_of table.Encrypted = bounds wanted.EncryptionInfos encrypted_table

-- the size of a table in bytes
abbrev pub table_size : List ℕ → ℕ → TableFields → ℕ
table_size image command fields = item_count image command fields * fields.item_size

-- the bytes of a table that lies inside the image
abbrev pub table_bytes : List ℕ → ℕ → TableFields → List ℕ
table_bytes image command fields =
    part (table_place image command fields) (table_size image command fields) image

-- Where a table lies, in an image that begins at `place` in the file. Without items it has no bytes,
-- wherever it is. It is nowhere where it has items and ends past the image.
abbrev pub table_in_file : ℕ → List ℕ → ℕ → TableFields → Option KesvuotSpan
table_in_file place image command fields =
    if item_count image command fields == 0 then Some (span_at 0 0)
    else (if nat_le (table_place image command fields + table_size image command fields)
    (length image)
    then Some (span_of (place + table_place image command fields) (table_bytes image command fields))
    else None)

-- where a table lies, which the first command bounds that holds its structure
abbrev pub found_table : ℕ → List ℕ → BoundedTable → Option KesvuotSpan
found_table place image which =
    option_and_then (λ command. table_in_file place image command (bounds_of which).fields)
    (first_wanted (bounds_of which).wanted image)

-- By the image alone, whose commands are long enough: the commands that bound a table

abbrev pub has_cmd : Wanted → ℕ → Bool
has_cmd wanted.Symtabs cmd = cmd == loader.LC_SYMTAB
has_cmd wanted.Dysymtabs cmd = cmd == loader.LC_DYSYMTAB
has_cmd wanted.DyldInfos cmd = is_dyld_info cmd
has_cmd wanted.EncryptionInfos cmd = cmd == loader.LC_ENCRYPTION_INFO_64
has_cmd other cmd = true

abbrev pub bounding : Wanted → List ℕ → List ℕ
bounding commands image = filter (λ c. has_cmd commands (command_cmd image c)) (commands_of image)

-- What is found in an image that breaks no rule: the whole table, if a command bounds it.
abbrev pub IsWhole : List ℕ → ℕ → BoundedTable → Option KesvuotSpan → Type 0
IsWhole image place which found =
    MatchOption (slice_get (bounding (bounds_of which).wanted image) 0) (found ≡ None)
    (λ command.
    let fields = (bounds_of which).fields in
    (found ≡ Some (span_of (place + table_place image command fields) (table_bytes image command fields)))
    × (length (table_bytes image command fields) ≡ table_size image command fields))
