-- The tables that commands bound, symbols and indirect entries.
-- (mach-o/loader.h: symtab_command, dysymtab_command; mach-o/nlist.h: nlist_64)
use Rattle.std.specs.Prelude.{◌≡◌, ◌≢◌, ℕ, ◌+◌, ◌*◌, ◌≤◌, ◌<◌, ◌==◌, ◌⊎◌, List, [], ◌∷◌, length, find, map, Any, slice_index, bit_and}
use Rattle.std.specs.Option.{option_map_or}
use Rattle.macho_fields.specs.Field.{number, HasZero}
use Rattle.macho_fields.specs.Image.{word, long, command_cmd, with_cmd}
use Rattle.macho_fields.specs.LoadCommands.{structure_of, width_size, table_fields, symbol_table}
use Rattle.macho_fields.specs.LoadCommands.{string_table, contents_table, module_table}
use Rattle.macho_fields.specs.LoadCommands.{reference_table, indirect_table, external_relocations}
use Rattle.macho_fields.specs.LoadCommands.{local_relocations}
use Rattle.macho_fields.specs.declared.bytes.Order.TheVariants.{Little}
use Rattle.macho_fields.specs.declared.load_command.TableFields.{TableFields}
use Rattle.macho_fields.specs.declared.load_command.Width.{Width}
use Rattle.macho_fields.specs.declared.header.loader.TheConstants as loader
use Rattle.macho_fields.specs.declared.header.nlist.TheConstants as nlist

-- the number in a field of the width
abbrev pub number_of : Width → List ℕ → ℕ → ℕ
number_of width image place = number Little (width_size width) image place

-- a table that a command bounds: the place of its first item, and how many items it has
abbrev pub table_place : List ℕ → ℕ → TableFields → ℕ
table_place image command fields = number_of fields.width image (command + fields.place)

abbrev pub item_count : List ℕ → ℕ → TableFields → ℕ
item_count image command fields = number_of fields.width image (command + fields.count)

-- symtab_command
abbrev pub symoff : List ℕ → ℕ → ℕ
symoff image symtab = table_place image symtab symbol_table

abbrev pub nsyms : List ℕ → ℕ → ℕ
nsyms image symtab = item_count image symtab symbol_table

abbrev pub stroff : List ℕ → ℕ → ℕ
stroff image symtab = table_place image symtab string_table

abbrev pub strsize : List ℕ → ℕ → ℕ
strsize image symtab = item_count image symtab string_table

-- how many symbols an image has: nsyms of its LC_SYMTAB, 0 without an LC_SYMTAB
abbrev pub symbol_count : List ℕ → List ℕ → ℕ
symbol_count image commands =
    option_map_or (nsyms image)
    (find (λ command. command_cmd image command == loader.LC_SYMTAB) commands) 0

-- dysymtab_command: ilocalsym at 8, nlocalsym 12, iextdefsym 16, nextdefsym 20, iundefsym 24,
-- nundefsym 28, and its tables
abbrev pub ilocalsym : List ℕ → ℕ → ℕ
ilocalsym image dysymtab = word image (dysymtab + 8)

abbrev pub nlocalsym : List ℕ → ℕ → ℕ
nlocalsym image dysymtab = word image (dysymtab + 12)

abbrev pub iextdefsym : List ℕ → ℕ → ℕ
iextdefsym image dysymtab = word image (dysymtab + 16)

abbrev pub nextdefsym : List ℕ → ℕ → ℕ
nextdefsym image dysymtab = word image (dysymtab + 20)

abbrev pub iundefsym : List ℕ → ℕ → ℕ
iundefsym image dysymtab = word image (dysymtab + 24)

abbrev pub nundefsym : List ℕ → ℕ → ℕ
nundefsym image dysymtab = word image (dysymtab + 28)

abbrev pub tocoff : List ℕ → ℕ → ℕ
tocoff image dysymtab = table_place image dysymtab contents_table

abbrev pub ntoc : List ℕ → ℕ → ℕ
ntoc image dysymtab = item_count image dysymtab contents_table

abbrev pub modtaboff : List ℕ → ℕ → ℕ
modtaboff image dysymtab = table_place image dysymtab module_table

abbrev pub nmodtab : List ℕ → ℕ → ℕ
nmodtab image dysymtab = item_count image dysymtab module_table

abbrev pub extrefsymoff : List ℕ → ℕ → ℕ
extrefsymoff image dysymtab = table_place image dysymtab reference_table

abbrev pub nextrefsyms : List ℕ → ℕ → ℕ
nextrefsyms image dysymtab = item_count image dysymtab reference_table

abbrev pub indirectsymoff : List ℕ → ℕ → ℕ
indirectsymoff image dysymtab = table_place image dysymtab indirect_table

abbrev pub nindirectsyms : List ℕ → ℕ → ℕ
nindirectsyms image dysymtab = item_count image dysymtab indirect_table

abbrev pub extreloff : List ℕ → ℕ → ℕ
extreloff image dysymtab = table_place image dysymtab external_relocations

abbrev pub nextrel : List ℕ → ℕ → ℕ
nextrel image dysymtab = item_count image dysymtab external_relocations

abbrev pub locreloff : List ℕ → ℕ → ℕ
locreloff image dysymtab = table_place image dysymtab local_relocations

abbrev pub nlocrel : List ℕ → ℕ → ℕ
nlocrel image dysymtab = item_count image dysymtab local_relocations

-- the three groups of symbols of a dysymtab_command, each a first index and a count
abbrev pub groups_of : List ℕ → ℕ → List (ℕ × ℕ)
groups_of image dysymtab =
    (ilocalsym image dysymtab, nlocalsym image dysymtab)
    ∷ (iextdefsym image dysymtab, nextdefsym image dysymtab)
    ∷ (iundefsym image dysymtab, nundefsym image dysymtab) ∷ []

-- a table: the place of its first item, the count of its items, the size of an item
abbrev pub table_at : List ℕ → ℕ → TableFields → ℕ × ℕ × ℕ
table_at image command fields =
    (table_place image command fields, item_count image command fields, fields.item_size)

-- the tables of a command
abbrev pub tables_of : List ℕ → ℕ → List (ℕ × ℕ × ℕ)
tables_of image command =
    option_map_or (λ structure. map (table_at image command) (table_fields structure))
    (structure_of (command_cmd image command)) []

-- a table that has items ends past the image
abbrev pub IsOutside : List ℕ → ℕ × ℕ × ℕ → Type 0
IsOutside image table = (0 < table.1) × (length image < table.0 + table.1 * table.2)

-- P holds of a symbol table and of that one of its symbols which is at the place
abbrev pub AtSymbol : List ℕ → List ℕ → (ℕ → ℕ → Type 0) → ℕ → Type 0
AtSymbol image commands P place =
    Any (λ symtab. (k : ℕ) × (k < nsyms image symtab)
    × (place ≡ symoff image symtab + nlist.NLIST_64_SIZE * k) × P symtab place)
    (with_cmd image loader.LC_SYMTAB commands)

-- nlist_64: n_strx at 0, n_type of 1 byte at 4, n_sect of 1 byte at 5, n_desc of 2 bytes at 6,
-- n_value of 8 bytes at 8
abbrev pub n_strx : List ℕ → ℕ → ℕ
n_strx image symbol = word image symbol

abbrev pub n_type : List ℕ → ℕ → ℕ
n_type image symbol = slice_index image (symbol + 4)

abbrev pub n_sect : List ℕ → ℕ → ℕ
n_sect image symbol = slice_index image (symbol + 5)

abbrev pub n_desc : List ℕ → ℕ → ℕ
n_desc image symbol = number Little 2 image (symbol + 6)

abbrev pub n_value : List ℕ → ℕ → ℕ
n_value image symbol = long image (symbol + 8)

-- the symbol has a name, and no zero byte ends it inside the string table
abbrev pub HasEndlessName : List ℕ → ℕ → ℕ → Type 0
HasEndlessName image symtab symbol =
    (n_strx image symbol ≢ 0)
    × ¬ HasZero image (stroff image symtab + n_strx image symbol)
    (stroff image symtab + strsize image symtab)

-- nlist_64.n_type: the symbol is not a debugging entry (N_STAB), and n_sect must be the number of a
-- section (N_TYPE, N_SECT)
abbrev pub IsSectionType : ℕ → Type 0
IsSectionType bits =
    (bit_and bits nlist.N_STAB ≡ 0) × (bit_and bits nlist.N_TYPE ≡ nlist.N_SECT)

abbrev pub NamesSection : List ℕ → ℕ → Type 0
NamesSection image symbol = IsSectionType (n_type image symbol)

-- the symbol names a section, and none of so many sections has its number
abbrev pub IsInNoSection : List ℕ → ℕ → ℕ → Type 0
IsInNoSection image sections symbol =
    NamesSection image symbol
    × ((n_sect image symbol ≡ 0) ⊎ (sections < n_sect image symbol))

-- a group of symbols that is not empty ends past so many symbols
abbrev pub PassesSymbols : ℕ → ℕ × ℕ → Type 0
PassesSymbols symbols group = (0 < group.1) × (symbols < group.0 + group.1)

-- an indirect entry is the index of a symbol: it is marked neither local nor absolute
abbrev pub IsSymbolIndex : ℕ → Type 0
IsSymbolIndex entry =
    (bit_and entry loader.INDIRECT_SYMBOL_LOCAL ≡ 0)
    × (bit_and entry loader.INDIRECT_SYMBOL_ABS ≡ 0)

-- an indirect entry is an index that none of so many symbols has
abbrev pub NamesNoSymbol : ℕ → ℕ → Type 0
NamesNoSymbol symbols entry = IsSymbolIndex entry × (symbols ≤ entry)
