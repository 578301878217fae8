-- What a look-up of a name in the export trie of an image finds.
use Rattle.std.proofs.Common.{◌≡◌, ◌≤◌, ◌<◌, List, ℕ, None, Some, length, refl}
use Rattle.std.proofs.lemmas.Bool.{le-leb, lt-leb}
use Rattle.macho_fields.specs.Field.{part}
use Rattle.macho_fields.specs.Image.{commands_of}
use Rattle.macho_fields.specs.Segment.{base_of}
use Rattle.macho_exports.specs.ExportTrie.{find_export}
use Rattle.macho_exports.specs.Exports.{export_table}
use Rattle.macho_exports.specs.declared.export_trie.Export.{Export}
use Rattle.macho_spans.specs.Span.{end_of}
use Rattle.macho_spans.specs.declared.span.Span.{Span}
use Rattle.macho_explain.specs.Alike.{address_by, exported_address}

module _ (image name : List ℕ) where
  pub no_table : export_table image ≡ None → None ≡ exported_address image name
  no_table none = rw none refl

  module _ (table : Span) (is : export_table image ≡ Some table) where
    pub table_outside : length image < end_of table → None ≡ exported_address image name
    table_outside past = rw (is, lt-leb (end_of table) (length image) past) refl

    module _ (inside : end_of table ≤ length image) where
      pub no_export : find_export (part table.start table.len image) name ≡ None → None ≡ exported_address image name
      no_export none = rw (is, le-leb (end_of table) (length image) inside, none) refl

      pub address_found : (export : Export) → find_export (part table.start table.len image) name ≡ Some export → address_by (base_of image (commands_of image)) export.target ≡ exported_address image name
      address_found export some = rw (is, le-leb (end_of table) (length image) inside, some) refl
