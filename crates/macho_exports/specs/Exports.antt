-- The exports of an image, and where they break their rules. A place is one in the image. (mach-o/loader.h:
-- linkedit_data_command, dyld_info_command)
use Rattle.std.specs.Prelude.{◌≡◌, ◌↔◌, ℕ, ◌+◌, ◌-◌, ◌^◌, ◌<◌, ◌==◌, ◌⊎◌, List, Option, Some, None, IfSome, IsSomeAnd, IsTrue, Bool, false, bit_and, if◌then◌else◌}
use Rattle.std.specs.Option.{option_map, option_map_or}
use Rattle.macho_fields.specs.Field.{part}
use Rattle.macho_fields.specs.FirstPlace.{IsLeastPlace}
use Rattle.macho_fields.specs.Image.{commands_of}
use Rattle.macho_fields.specs.Segment.{base_of}
use Rattle.macho_fields.specs.Symbol.{table_at}
use Rattle.macho_fields.specs.LoadCommands.{linkedit_data_table}
use Rattle.macho_fields.specs.declared.header.loader.TheConstants as loader
use Rattle.macho_image.specs.Command.{first_with_cmd}
use Rattle.macho_spans.specs.declared.span.Span.{Span}
use Rattle.macho_exports.specs.ExportWalk.{met_nodes, AtMet, own_place, place_or_end, HasNoEnd, PassesTable, HasTerminal, IsBadTerminal, HasExport}
use Rattle.macho_tables.specs.MappedAddresses.{IsMapped, AreMappedAddresses}
use Rattle.macho_tables.specs.Homes.{bytes_of_table}
use Rattle.macho_tables.specs.Places.{dyld_info, bounded_at, lesser}
use Rattle.macho_tables.specs.Limits.{library_count}
use Rattle.macho_exports.specs.declared.export_trie.Export.{Export}
use Rattle.macho_exports.specs.declared.export_trie.Target.{Target}
use Rattle.macho_exports.specs.declared.export_trie.Target.TheVariants as target
use Rattle.macho_exports.specs.declared.exports.Destinations.{Destinations}
use Rattle.macho_exports.specs.declared.exports.ExportSurvey.{ExportSurvey}
use Rattle.macho_exports.specs.declared.exports.NodeBreaks.{NodeBreaks}

-- What an export leads to

-- It is in another library, by an ordinal above the number of libraries. The three greatest ordinals are special
-- ones, -1 to -3.
abbrev pub IsOfNoLibrary : ℕ → Target → Type 0
IsOfNoLibrary libraries (target.Reexport ordinal name) = (libraries < ordinal) × (ordinal < 2 ^ 64 - 3)
IsOfNoLibrary libraries other = ⊥

-- no segment is mapped to the address of it, or it has a resolver and none is mapped to the address of that. Both
-- count from the base.
abbrev pub ResolvesNowhere : List ℕ → ℕ → Option ℕ → Type 0
ResolvesNowhere image base resolver = IsSomeAnd resolver (λ r. ¬ IsMapped image (base + r))

abbrev pub LeadsNowhere : List ℕ → ℕ → Target → Type 0
LeadsNowhere image base (target.Address address resolver) =
    (¬ IsMapped image (base + address)) ⊎ ResolvesNowhere image base resolver
LeadsNowhere image base other = ⊥

-- the address of an absolute symbol is not in the image
abbrev pub is_absolute : ℕ → Bool
is_absolute flags =
    bit_and flags loader.EXPORT_SYMBOL_FLAGS_KIND_MASK == loader.EXPORT_SYMBOL_FLAGS_KIND_ABSOLUTE

abbrev pub HasNoLibrary : List ℕ → Export → Type 0
HasNoLibrary image export = IsOfNoLibrary (library_count image) export.target

abbrev pub HasNoAddress : List ℕ → Export → Type 0
HasNoAddress image export =
    (is_absolute export.flags ≡ false)
    × IsSomeAnd (base_of image (commands_of image)) (λ base. LeadsNowhere image base export.target)

-- The rules of an image and the bytes of its table, at an offset in the table

abbrev pub EndlessNode : List ℕ → List ℕ → ℕ → Type 0
EndlessNode image trie = AtMet (place_or_end trie) (HasNoEnd trie) (met_nodes trie)

abbrev pub TooManyBytes : List ℕ → List ℕ → ℕ → Type 0
TooManyBytes image trie = AtMet own_place (PassesTable trie) (met_nodes trie)

abbrev pub BadTerminal : List ℕ → List ℕ → ℕ → Type 0
BadTerminal image trie = AtMet own_place (HasTerminal trie (IsBadTerminal trie)) (met_nodes trie)

abbrev pub UnknownLibrary : List ℕ → List ℕ → ℕ → Type 0
UnknownLibrary image trie = AtMet own_place (HasTerminal trie (HasExport trie (HasNoLibrary image))) (met_nodes trie)

abbrev pub UnknownAddress : List ℕ → List ℕ → ℕ → Type 0
UnknownAddress image trie = AtMet own_place (HasTerminal trie (HasExport trie (HasNoAddress image))) (met_nodes trie)

-- The table

-- the bytes that a command names, if it has some
abbrev pub some_bytes : Span → Option Span
some_bytes table = if table.len == 0 then None else Some table

-- the data of LC_DYLD_EXPORTS_TRIE
abbrev pub exports_data : List ℕ → Option Span
exports_data image =
    option_map_or (λ command. some_bytes (bytes_of_table (table_at image command linkedit_data_table)))
    (first_with_cmd image loader.LC_DYLD_EXPORTS_TRIE (commands_of image)) None

-- export_off, at 40, and export_size of LC_DYLD_INFO or LC_DYLD_INFO_ONLY
abbrev pub info_exports : List ℕ → Option Span
info_exports image =
    option_map_or (λ command. some_bytes (bytes_of_table (table_at image command (bounded_at 40)))) (dyld_info image) None

-- either; at most one has bytes after table-repeated
abbrev pub export_table : List ℕ → Option Span
export_table image = option_map_or (λ table. Some table) (exports_data image) (info_exports image)

-- such a rule of the trie of the image, at a place of it
abbrev pub InExports : List ℕ → (List ℕ → List ℕ → ℕ → Type 0) → ℕ → Type 0
InExports image Rule place =
    IsSomeAnd (export_table image) (λ table.
    (offset : ℕ) × (place ≡ table.start + offset) × Rule image (part table.start table.len image) offset)

-- The rules export-node, export-total, export-terminal, export-library and export-address

abbrev pub BreaksExportNode : List ℕ → ℕ → Type 0
BreaksExportNode image = InExports image EndlessNode

abbrev pub BreaksExportTotal : List ℕ → ℕ → Type 0
BreaksExportTotal image = InExports image TooManyBytes

abbrev pub BreaksExportTerminal : List ℕ → ℕ → Type 0
BreaksExportTerminal image = InExports image BadTerminal

abbrev pub BreaksExportLibrary : List ℕ → ℕ → Type 0
BreaksExportLibrary image = InExports image UnknownLibrary

abbrev pub BreaksExportAddress : List ℕ → ℕ → Type 0
BreaksExportAddress image = InExports image UnknownAddress

-- the least places at which the rules are broken
pub record AreLeastExports (In : (List ℕ → List ℕ → ℕ → Type 0) → ℕ → Type 0) (survey : ExportSurvey) : Type 0 where
  pub node : IsLeastPlace (In EndlessNode) survey.node
  pub total : IsLeastPlace (In TooManyBytes) survey.total
  pub terminal : IsLeastPlace (In BadTerminal) survey.terminal
  pub library : IsLeastPlace (In UnknownLibrary) survey.library
  pub address : IsLeastPlace (In UnknownAddress) survey.address

-- in the bytes of a table
abbrev pub AreLeastInTrie : List ℕ → List ℕ → ExportSurvey → Type 0
AreLeastInTrie image trie = AreLeastExports (λ Rule. Rule image trie)

-- in an image
abbrev pub AreLeastInImage : List ℕ → ExportSurvey → Type 0
AreLeastInImage image = AreLeastExports (InExports image)

-- an image takes memory for its exports
abbrev pub HasExports : List ℕ → Type 0
HasExports image = (table : Span) × (export_table image ≡ Some table)

-- What a survey is made of

-- these are what the exports of the image may lead to
pub record AreDestinations (image : List ℕ) (destinations : Destinations) : Type 0 where
  pub libraries : destinations.libraries ≡ library_count image
  pub base : destinations.base ≡ base_of image (commands_of image)
  pub addresses : AreMappedAddresses image destinations.addresses

-- these rules a terminal part breaks
pub record AreNodeBreaks (image trie : List ℕ) (bounds : Span) (breaks : NodeBreaks) : Type 0 where
  pub terminal : IsTrue breaks.terminal ↔ IsBadTerminal trie bounds
  pub library : IsTrue breaks.library ↔ HasExport trie (HasNoLibrary image) bounds
  pub address : IsTrue breaks.address ↔ HasExport trie (HasNoAddress image) bounds

-- the place is noted where the rule is broken, if it is less than the place that was noted before
abbrev pub IsNotedLeast : Bool → ℕ → Option ℕ → Option ℕ → Type 0
IsNotedLeast broken place old new = new ≡ (if broken then lesser old (Some place) else old)

-- a survey of a trie that breaks none
abbrev pub unbroken_exports : ExportSurvey
unbroken_exports = record {
  node = None;
  total = None;
  terminal = None;
  library = None;
  address = None;
}

-- a survey whose places are counted from another start, and that these fit 64 bits
abbrev pub moved_exports : ℕ → ExportSurvey → ExportSurvey
moved_exports start survey = record {
  node = option_map (λ offset. start + offset) survey.node;
  total = option_map (λ offset. start + offset) survey.total;
  terminal = option_map (λ offset. start + offset) survey.terminal;
  library = option_map (λ offset. start + offset) survey.library;
  address = option_map (λ offset. start + offset) survey.address;
}

pub record ExportsFitAt (start : ℕ) (survey : ExportSurvey) : Type 0 where
  pub node : IfSome survey.node (λ offset. start + offset < 2 ^ 64)
  pub total : IfSome survey.total (λ offset. start + offset < 2 ^ 64)
  pub terminal : IfSome survey.terminal (λ offset. start + offset < 2 ^ 64)
  pub library : IfSome survey.library (λ offset. start + offset < 2 ^ 64)
  pub address : IfSome survey.address (λ offset. start + offset < 2 ^ 64)
