-- The chained fixups of an image, and where they break their rules. A place is one in the image.
-- (mach-o/loader.h: linkedit_data_command)
use Rattle.std.specs.Prelude.{◌≡◌, ℕ, ◌+◌, ◌^◌, ◌<◌, ◌⊎◌, List, length, Option, None, IfSome, IsSomeAnd, MatchOption}
use Rattle.std.specs.Option.{option_map}
use Rattle.macho_fields.specs.Bytes.{bytes_of}
use Rattle.macho_fields.specs.Field.{part}
use Rattle.macho_fields.specs.FirstPlace.{IsLeastPlace}
use Rattle.macho_fields.specs.Image.{commands_of}
use Rattle.macho_fields.specs.LoadCommands.{linkedit_data_table}
use Rattle.macho_fields.specs.Symbol.{table_at}
use Rattle.macho_fields.specs.declared.header.loader.TheConstants as loader
use Rattle.macho_image.specs.Command.{first_with_cmd}
use Rattle.macho_chains.specs.ChainHeader.{chain_header}
use Rattle.macho_chains.specs.ChainImports.{BreaksChainImports, BreaksChainTotal, BreaksChainLibrary}
use Rattle.macho_chains.specs.ChainStarts.{BreaksChainStarts}
use Rattle.macho_tables.specs.DataTables.{InTableBytes}
use Rattle.macho_tables.specs.Homes.{bytes_of_table}
use Rattle.macho_tables.specs.Limits.{library_count}
use Rattle.macho_chains.specs.declared.chain_header.ChainHeader.{ChainHeader}
use Rattle.macho_chains.specs.declared.chains.ChainSurvey.{ChainSurvey}
use Rattle.macho_chains.specs.declared.chains.ChainTable.{ChainTable}
use Rattle.macho_chains.specs.declared.chains.ChainedFixups.{ChainedFixups}
use Rattle.macho_spans.specs.declared.span.Span.{Span}

-- the command that names them, at most one after table-repeated
abbrev pub chained_fixups : List ℕ → Option ℕ
chained_fixups image = first_with_cmd image loader.LC_DYLD_CHAINED_FIXUPS (commands_of image)

-- its bytes, where it has some
abbrev pub IsChainTable : List ℕ → Span → Type 0
IsChainTable image table =
    IsSomeAnd (chained_fixups image)
    (λ command. (table ≡ bytes_of_table (table_at image command linkedit_data_table)) × (0 < table.len))

-- the table that was read is the image's: its start, its bytes, and the header with which they begin
pub record IsTableOf (image : List ℕ) (table : ChainTable) : Type 0 where
  pub named : IsChainTable image (record { start = table.start; len = length (bytes_of table.bytes) })
  pub near : table.start + length (bytes_of table.bytes) < 2 ^ 64
  pub bytes : bytes_of table.bytes ≡ part table.start (length (bytes_of table.bytes)) image
  pub header : table.header ≡ chain_header (bytes_of table.bytes)

-- the command of the image, and its table, where it has bytes
pub record AreChainedFixups (image : List ℕ) (fixups : ChainedFixups) : Type 0 where
  pub command : fixups.command ≡ chained_fixups image
  pub table : MatchOption fixups.table ((table : Span) → ¬ IsChainTable image table) (IsTableOf image)

-- The rules of an image and the bytes of its table, at an offset in the table. Without a header, no
-- other rule is broken.

abbrev pub NoHeader : List ℕ → List ℕ → ℕ → Type 0
NoHeader image chains offset = (offset ≡ 0) × (chain_header chains ≡ None)

-- the table has a header, with P
abbrev pub HasHeader : List ℕ → (ChainHeader → Type 0) → Type 0
HasHeader chains P = IsSomeAnd (chain_header chains) P

abbrev pub BadStarts : List ℕ → List ℕ → ℕ → Type 0
BadStarts image chains offset = HasHeader chains (λ header. BreaksChainStarts image chains header offset)

abbrev pub BadImports : List ℕ → List ℕ → ℕ → Type 0
BadImports image chains offset = HasHeader chains (λ header. BreaksChainImports chains header offset)

abbrev pub LongNames : List ℕ → List ℕ → ℕ → Type 0
LongNames image chains offset = HasHeader chains (λ header. BreaksChainTotal chains header offset)

abbrev pub UnknownLibrary : List ℕ → List ℕ → ℕ → Type 0
UnknownLibrary image chains offset =
    HasHeader chains (λ header. BreaksChainLibrary (library_count image) chains header offset)

-- a rule of the pointers, of a table that has some bytes
abbrev pub OfTable : List ℕ → ℕ × ℕ × ℕ → (List ℕ → ℕ → List ℕ → ChainHeader → ℕ → Type 0) → ℕ → Type 0
OfTable image table Rule place =
    (0 < table.1)
    × HasHeader (part table.0 table.1 image) (λ header. Rule image table.0 (part table.0 table.1 image) header place)

-- of the table of the image
abbrev pub InChains : List ℕ → (List ℕ → List ℕ → ℕ → Type 0) → ℕ → Type 0
InChains image Rule place =
    IsSomeAnd (chained_fixups image)
    (λ command. InTableBytes image (table_at image command linkedit_data_table) Rule place)

-- loaders read a header where the command says, and its table has no bytes, which is reported at the command
abbrev pub InNoBytes : List ℕ → ℕ → Type 0
InNoBytes image place =
    IsSomeAnd (chained_fixups image)
    (λ command. (place ≡ command) × ((table_at image command linkedit_data_table).1 ≡ 0))

-- the rule chain-header
abbrev pub BreaksChainHeader : List ℕ → ℕ → Type 0
BreaksChainHeader image place = InNoBytes image place ⊎ InChains image NoHeader place

-- a rule of the pointers of the image, at a place of it
abbrev pub InPointers : List ℕ → (List ℕ → ℕ → List ℕ → ChainHeader → ℕ → Type 0) → ℕ → Type 0
InPointers image Rule place =
    IsSomeAnd (chained_fixups image)
    (λ command. OfTable image (table_at image command linkedit_data_table) Rule place)

-- the least places at which the rules are broken: the place of the header, and the places of the table
pub record AreLeastInChains (Header : ℕ → Type 0) (In : (List ℕ → List ℕ → ℕ → Type 0) → ℕ → Type 0) (survey : ChainSurvey) : Type 0 where
  pub header : IsLeastPlace Header survey.header
  pub starts : IsLeastPlace (In BadStarts) survey.starts
  pub imports : IsLeastPlace (In BadImports) survey.imports
  pub total : IsLeastPlace (In LongNames) survey.total
  pub library : IsLeastPlace (In UnknownLibrary) survey.library

-- as offsets in the table
abbrev pub AreLeastInTable : List ℕ → List ℕ → ChainSurvey → Type 0
AreLeastInTable image chains survey =
    AreLeastInChains (NoHeader image chains) (λ Rule offset. Rule image chains offset) survey

-- as places in the image
abbrev pub AreLeastInImage : List ℕ → ChainSurvey → Type 0
AreLeastInImage image survey = AreLeastInChains (BreaksChainHeader image) (InChains image) survey

-- a survey that found nothing
abbrev pub unbroken_chains : ChainSurvey
unbroken_chains = record { header = None; starts = None; imports = None; total = None; library = None }

-- a survey whose places are counted from another start, and that these fit 64 bits
abbrev pub moved_chains : ℕ → ChainSurvey → ChainSurvey
moved_chains start survey = record {
  header = option_map (λ offset. start + offset) survey.header;
  starts = option_map (λ offset. start + offset) survey.starts;
  imports = option_map (λ offset. start + offset) survey.imports;
  total = option_map (λ offset. start + offset) survey.total;
  library = option_map (λ offset. start + offset) survey.library;
}

pub record ChainsFitAt (start : ℕ) (survey : ChainSurvey) : Type 0 where
  pub header : IfSome survey.header (λ offset. start + offset < 2 ^ 64)
  pub starts : IfSome survey.starts (λ offset. start + offset < 2 ^ 64)
  pub imports : IfSome survey.imports (λ offset. start + offset < 2 ^ 64)
  pub total : IfSome survey.total (λ offset. start + offset < 2 ^ 64)
  pub library : IfSome survey.library (λ offset. start + offset < 2 ^ 64)
