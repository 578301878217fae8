-- The names that an image exports. (mach-o/loader.h: LC_DYLD_EXPORTS_TRIE, dyld_info_command,
-- EXPORT_SYMBOL_FLAGS_..)
use Rattle.std.specs.Prelude.{◌≡◌, ℕ, ◌+◌, ◌%◌, ◌^◌, ◌==◌, ◌≤◌, List, length, Option, Some, IfSome, bit_and, if◌then◌else◌}
use Rattle.std.specs.Option.{option_map, option_map_or, option_and_then, unwrap_or}
use Rattle.macho_fields.specs.Field.{part}
use Rattle.macho_fields.specs.Image.{commands_of}
use Rattle.macho_fields.specs.Segment.{base_of}
use Rattle.macho_spans.specs.Span.{end_of}
use Rattle.macho_spans.specs.declared.span.Span.{Span}
use Rattle.macho_alike.specs.ExportModels.{IsExportOf}
use Rattle.macho_exports.specs.ExportTrie.{EXPORT_SYMBOL_FLAGS_KIND_MASK, EXPORT_SYMBOL_FLAGS_KIND_ABSOLUTE, export_in, find_export}
use Rattle.macho_exports.specs.Exports.{export_table}
use Rattle.macho_exports.specs.declared.export_trie.Export.{Export}
use Rattle.macho_exports.specs.declared.export_trie.Target.{Target}
use Rattle.macho_exports.specs.declared.export_trie.Target.TheVariants as target
use Rattle.macho_c.specs.ExportTrie.{IsTrie}
use Rattle.macho_rows.specs.Spans.{part_or_none, span_at, span_of}
use Rattle.macho_c.specs.Status.{Answers, Tells}
use Rattle.macho_c.specs.declared.exports.KesvuotExport.{KesvuotExport}
use Rattle.macho_rows.specs.declared.image.KesvuotImage.{KesvuotImage}

-- an address, by what it is past the base
abbrev pub from_base : ℕ → ℕ → ℕ
from_base base number = (base + number) % 2 ^ 64

-- the address of a symbol, which does not count from the base if the symbol is absolute
abbrev pub address_of : ℕ → ℕ → ℕ → ℕ
address_of base flags number =
    if bit_and flags EXPORT_SYMBOL_FLAGS_KIND_MASK == EXPORT_SYMBOL_FLAGS_KIND_ABSOLUTE then number
    else from_base base number

abbrev pub no_export : KesvuotExport
no_export = record { flags = 0; address = 0; resolver = 0; ordinal = 0; name = span_at 0 0; reserved = 0 }

-- the row of an export, of a trie that begins at the place in the file
abbrev pub target_row : ℕ → ℕ → List ℕ → ℕ → Target → KesvuotExport
target_row base place trie flags (target.Address number resolver) =
    record no_export { flags = flags; address = address_of base flags number; resolver = option_map_or (from_base base) resolver 0 }
target_row base place trie flags (target.Reexport ordinal name) =
    record no_export { flags = flags; ordinal = ordinal; name = span_of (place + name.start) (part_or_none name.start name.len trie) }

abbrev pub export_row : ℕ → ℕ → List ℕ → Export → KesvuotExport
export_row base place trie export = target_row base place trie export.flags export.target

-- the export with a name, in the trie that lies in an image, which begins at `place` in the file
abbrev pub exported : ℕ → ℕ → List ℕ → Option Span → List ℕ → Option KesvuotExport
exported base place image trie name =
    option_and_then (λ (table : Span). let bytes = part table.start table.len image in
    option_map (export_row base (place + table.start) bytes) (find_export bytes name)) trie

-- this is the export with a name, in the trie of an image with this base
abbrev pub IsExported : ℕ → ℕ → List ℕ → List ℕ → Option KesvuotExport → Type 0
IsExported base place image name found =
    (trie : Option Span) × IsTrie image trie × (found ≡ exported base place image trie name)

-- the answer on a name, by the struct of the image
abbrev pub IsExport : List ℕ → KesvuotImage → List ℕ → ℕ → KesvuotExport → Type 0
IsExport image row name status export =
    Tells (IsExported row.base row.slice.offset image name) (Answers no_export status export)

-- The answer by the image alone, which breaks no rule and begins at `place` in the file: what the look-up in its
-- trie finds, which is all inside the image, with addresses from its base.
abbrev pub FindsExport : List ℕ → ℕ → List ℕ → ℕ → KesvuotExport → Type 0
FindsExport image place name status export =
    IfSome (export_table image) (λ table. end_of table ≤ length image)
    × Answers no_export status export
    (exported (unwrap_or (base_of image (commands_of image)) 0) place image (export_table image) name)

-- The answer is the row of the export that any reader finds, whether it looks the name up or lists all names, if all of
-- them find one: in each image of a file that the unambiguous profile accepts.
abbrev pub FindsAlike : List ℕ → ℕ → List ℕ → ℕ → KesvuotExport → Type 0
FindsAlike image place name status export =
    (table terminal : Span) → export_table image ≡ Some table
    → IsExportOf (part table.start table.len image) name terminal
    → Answers no_export status export
    (option_map (export_row (unwrap_or (base_of image (commands_of image)) 0) (place + table.start) (part table.start table.len image))
    (option_map (λ e. e.0) (export_in (part table.start table.len image) terminal)))
