-- Where a symbol says something else of its name than the export trie does. (mach-o/nlist.h: nlist_64; mach-o/loader.h:
-- LC_DYLD_EXPORTS_TRIE, dyld_info_command, EXPORT_SYMBOL_FLAGS_..)
use Rattle.std.specs.Prelude.{◌≡◌, ◌≢◌, ℕ, ◌+◌, ◌⊎◌, List, Option, Some, None, IsSomeAnd, false, bit_and}
use Rattle.macho_fields.specs.Field.{part}
use Rattle.macho_fields.specs.Image.{commands_of}
use Rattle.macho_fields.specs.Segment.{base_of}
use Rattle.macho_fields.specs.Symbol.{AtSymbol}
use Rattle.macho_fields.specs.declared.header.loader.TheConstants.{EXPORT_SYMBOL_FLAGS_WEAK_DEFINITION}
use Rattle.macho_fields.specs.declared.header.nlist.TheConstants.{N_TYPE, N_INDR, N_WEAK_DEF}
use Rattle.macho_exports.specs.ExportTrie.{find_export}
use Rattle.macho_exports.specs.Exports.{export_table, is_absolute}
use Rattle.macho_exports.specs.declared.export_trie.Export.{Export}
use Rattle.macho_exports.specs.declared.export_trie.Target.TheVariants as target
use Rattle.macho_image.specs.Symbol.{symbol_at}
use Rattle.macho_image.specs.declared.symbol.Symbol.{Symbol}
use Rattle.macho_alike.specs.Definitions.{name_of}
use Rattle.macho_alike.specs.Names.{HasExternalName}
use Rattle.macho_alike.specs.Symbols.{IsOfAnother, Differ}

-- an export of the image, at an address that counts from the base: it is neither absolute nor a symbol of another
-- library, and it has no resolver
abbrev pub IsAt : Export → ℕ → Type 0
IsAt export address = (is_absolute export.flags ≡ false) × (export.target ≡ target.Address address None)

-- the definition is weak, by the symbol and by the export
abbrev pub IsWeakSymbol : Symbol → Type 0
IsWeakSymbol symbol = bit_and symbol.desc N_WEAK_DEF ≢ 0

abbrev pub IsWeakExport : ℕ → Type 0
IsWeakExport flags = bit_and flags EXPORT_SYMBOL_FLAGS_WEAK_DEFINITION ≢ 0

-- another image defines the symbol, or it stands for another name
abbrev pub IsFromElsewhere : Symbol → Type 0
IsFromElsewhere symbol = IsOfAnother symbol.kind ⊎ (bit_and symbol.kind N_TYPE ≡ N_INDR)

-- The symbol says something else than an export of the image with these flags, so far from the base: it is from
-- elsewhere, or is at another address, or one of the two is weak and not the other. Without a base the export has no
-- address.
abbrev pub IsUnlike : Option ℕ → ℕ → ℕ → Symbol → Type 0
IsUnlike base flags address symbol =
    IsFromElsewhere symbol
    ⊎ (IsSomeAnd base (λ b. symbol.value ≢ b + address) ⊎ Differ (IsWeakSymbol symbol) (IsWeakExport flags))

-- a look-up of the name in the export trie of the image finds the export
abbrev pub IsExportedAs : List ℕ → List ℕ → Export → Type 0
IsExportedAs image name export =
    IsSomeAnd (export_table image) (λ table. find_export (part table.start table.len image) name ≡ Some export)

-- the trie has an export of the image with the name of the symbol, which says something else
abbrev pub IsUnlikeTrie : List ℕ → ℕ → Symbol → Type 0
IsUnlikeTrie image symtab symbol =
    HasExternalName symbol
    × ((export : Export) × (address : ℕ) × IsExportedAs image (name_of image symtab symbol) export × IsAt export address
    × IsUnlike (base_of image (commands_of image)) export.flags address symbol)

-- the rule export-symbol, of symbols and the trie, at the place of a symbol
abbrev pub BreaksTrieSymbol : List ℕ → ℕ → Type 0
BreaksTrieSymbol image place =
    AtSymbol image (commands_of image) (λ symtab symbol. IsUnlikeTrie image symtab (symbol_at image symbol)) place
