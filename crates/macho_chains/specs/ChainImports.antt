-- The imports of chained fixups, and where they break their rules. An offset is one in the table.
-- (mach-o/fixup-chains.h: dyld_chained_import, dyld_chained_import_addend, dyld_chained_import_addend64)
use Rattle.std.specs.Prelude.{◌≡◌, ◌≢◌, ℕ, zero, suc, ◌+◌, ◌-◌, ◌*◌, ◌/◌, ◌^◌, ◌≤◌, ◌<◌, ◌⊎◌, nat_lt, List, length, slice_get, Option, Some, None, IsSomeAnd, bit_and, if◌then◌else◌}
use Rattle.macho_fields.specs.Field.{string_from, HasZero}
use Rattle.macho_fields.specs.FirstPlace.{IsLeastPlace}
use Rattle.macho_fields.specs.Symbol.{number_of}
use Rattle.macho_fields.specs.declared.load_command.Width.TheVariants.{Uint32, Uint64}
use Rattle.macho_tables.specs.Items.{AtItem}
use Rattle.macho_chains.specs.declared.chain_header.ChainHeader.{ChainHeader}
use Rattle.macho_chains.specs.declared.chain_header.ImportFormat.{ImportFormat}
use Rattle.macho_chains.specs.declared.chain_header.ImportFormat.TheVariants as format
use Rattle.macho_chains.specs.declared.chain_imports.Import.{Import}
use Rattle.macho_chains.specs.declared.chain_imports.ImportBits.{ImportBits}
use Rattle.macho_chains.specs.declared.chain_imports.ImportSurvey.{ImportSurvey}
use Rattle.macho_chains.specs.declared.chain_imports.Ordinal.{Ordinal}
use Rattle.macho_chains.specs.declared.chain_imports.Ordinal.TheVariants as ordinal
use Rattle.macho_tables.specs.declared.limits.TheConstants as limit

-- The structures: their size, the width of the bits with which they begin, which bits are lib_ordinal, and
-- from which on they are name_offset. What is between the two, weak_import and reserved bits, is not looked at.
abbrev pub import_bits : ImportFormat → ImportBits
import_bits format.Import = record { size = 4; width = Uint32; ordinal_mask = 0xff; name_shift = 9 }
import_bits format.ImportAddend = record { size = 8; width = Uint32; ordinal_mask = 0xff; name_shift = 9 }
import_bits format.ImportAddend64 = record { size = 16; width = Uint64; ordinal_mask = 0xffff; name_shift = 32 }

-- lib_ordinal: its fifteen greatest values are below 0
abbrev pub ordinal_of : ℕ → ℕ → Ordinal
ordinal_of mask bits =
    if nat_lt (mask - 15) bits then ordinal.Special (mask + 1 - bits) else ordinal.Library bits

-- an import, at an offset
unfoldable pub import_at : List ℕ → ImportFormat → ℕ → Import
import_at chains format offset =
    let layout = import_bits format in
    let bits = number_of layout.width chains offset in
    record {
      ordinal = ordinal_of layout.ordinal_mask (bit_and bits layout.ordinal_mask);
      name_offset = bits / 2 ^ layout.name_shift;
    }

-- the import k of the table, and where its name begins
abbrev pub import_offset : ChainHeader → ℕ → ℕ
import_offset header k = header.imports_offset + k * (import_bits header.imports_format).size

abbrev pub import_of : List ℕ → ChainHeader → ℕ → Import
import_of chains header k = import_at chains header.imports_format (import_offset header k)

abbrev pub import_name_start : List ℕ → ChainHeader → ℕ → ℕ
import_name_start chains header k = header.symbols_offset + (import_of chains header k).name_offset

-- how many bytes the names of the first imports have, so many, with a zero byte each
abbrev pub names_size : List ℕ → ChainHeader → ℕ → ℕ
names_size chains header zero = 0
names_size chains header (suc k) =
    names_size chains header k + (length (string_from (import_name_start chains header k) chains) + 1)

-- a name does not begin past the one before it, right past a zero byte
abbrev pub MayShare : List ℕ → Option ℕ → ℕ → Type 0
MayShare chains before name =
    IsSomeAnd before (λ start. (name ≤ start) ⊎ (slice_get chains (name - 1) ≢ Some 0))

-- What the rules say of an import

-- no zero byte of the table ends its name
abbrev pub HasNoNameEnd : List ℕ → ChainHeader → ℕ → Type 0
HasNoNameEnd chains header k = ¬ HasZero chains (import_name_start chains header k) (length chains)

-- with its name, those up to it have more bytes than the table
abbrev pub PassesTable : List ℕ → ChainHeader → ℕ → Type 0
PassesTable chains header k = length chains < names_size chains header (suc k)

-- the ordinal is above the number of libraries, or so far below 0 that it has no meaning
abbrev pub IsNoLibrary : ℕ → Ordinal → Type 0
IsNoLibrary libraries (ordinal.Library number) = libraries < number
IsNoLibrary libraries (ordinal.Special below) = limit.SPECIAL_ORDINALS < below

abbrev pub IsOfNoLibrary : ℕ → List ℕ → ChainHeader → ℕ → Type 0
IsOfNoLibrary libraries chains header k = IsNoLibrary libraries (import_of chains header k).ordinal

-- The rules

-- there are imports, and they end past the table
abbrev pub ImportsEndPast : List ℕ → ChainHeader → Type 0
ImportsEndPast chains header =
    (0 < header.imports_count) × (length chains < import_offset header header.imports_count)

-- the imports lie in the table, and one with P is at the offset
abbrev pub AtImport : List ℕ → ChainHeader → (ℕ → Type 0) → ℕ → Type 0
AtImport chains header P offset =
    (¬ ImportsEndPast chains header) × AtItem (import_offset header) header.imports_count P offset

-- chain-imports: they end past the table, which is reported at its start, or a name does not end
abbrev pub BreaksChainImports : List ℕ → ChainHeader → ℕ → Type 0
BreaksChainImports chains header offset =
    ((offset ≡ 0) × ImportsEndPast chains header)
    ⊎ AtImport chains header (HasNoNameEnd chains header) offset

-- chain-total
abbrev pub BreaksChainTotal : List ℕ → ChainHeader → ℕ → Type 0
BreaksChainTotal chains header offset = AtImport chains header (PassesTable chains header) offset

-- chain-library, of an image with so many libraries
abbrev pub BreaksChainLibrary : ℕ → List ℕ → ChainHeader → ℕ → Type 0
BreaksChainLibrary libraries chains header offset =
    AtImport chains header (IsOfNoLibrary libraries chains header) offset

-- the least offsets at which the rules are broken
pub record AreLeastImports (libraries : ℕ) (chains : List ℕ) (header : ChainHeader) (survey : ImportSurvey) : Type 0 where
  pub imports : IsLeastPlace (BreaksChainImports chains header) survey.imports
  pub total : IsLeastPlace (BreaksChainTotal chains header) survey.total
  pub library : IsLeastPlace (BreaksChainLibrary libraries chains header) survey.library

-- a survey that found nothing
abbrev pub unbroken_imports : ImportSurvey
unbroken_imports = record { imports = None; total = None; library = None }
