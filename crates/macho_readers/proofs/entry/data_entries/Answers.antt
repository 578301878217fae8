use Rattle.std.proofs.Common.{◌≡◌, ℕ, ◌<◌, List, [], Option, None, Some, refl, sym, ap, ◌∙◌, arith}
use Rattle.std.specs.Prelude.{IsSomeAnd}
use Rattle.std.specs.Option.{option_map_or}
use Rattle.macho_fields.specs.Field.{part}
use Rattle.macho_fields.specs.Image.{commands_of}
use Rattle.macho_fields.specs.LoadCommands.{linkedit_data_table}
use Rattle.macho_fields.specs.Symbol.{table_at}
use Rattle.macho_fields.specs.declared.header.loader.TheConstants as loader
use Rattle.macho_image.specs.Command.{first_with_cmd}
use Rattle.macho_spans.specs.declared.span.Span.{Span}
use Rattle.macho_tables.specs.Homes.{bytes_of_table}
use Rattle.macho_readers.proofs.entry.data_entries.Goals as goal

module _ (image : List ℕ) where
  abbrev IsTable : Span → ℕ → Type 0
  IsTable table command = (table ≡ bytes_of_table (table_at image command linkedit_data_table)) × (0 < table.len)

  abbrev at : Option ℕ → List ℕ
  at command = option_map_or (λ d. let table = table_at image d linkedit_data_table in part table.0 table.1 image) command []

  some_table : (command : Option ℕ) (table : Span) → IsSomeAnd command (IsTable table) → part table.start table.len image ≡ at command
  some_table None table is = absurd is
  some_table (Some d) table is = ap (λ (t : Span). part t.start t.len image) is.0

  empty : (start len : ℕ) → ¬ (0 < len) → part start len image ≡ []
  empty start len none = let zero : len ≡ 0 = omega (arith, none) in ap (λ n. part start n image) zero

  no_table : (command : Option ℕ) → ((table : Span) → ¬ IsSomeAnd command (IsTable table)) → at command ≡ []
  no_table None none = refl
  no_table (Some d) none = empty _ _ (λ some. none (bytes_of_table (table_at image d linkedit_data_table)) (refl, some))

pub returns-in-Some : goal.returns-in-Some
returns-in-Some c =
    let image = c.args.image.now in
    let table = c.in-Some.table in
    c.slice.ensures ∙ (ap (part table.start table.len) c.bytes.ensures.bytes
    ∙ some_table image (first_with_cmd image loader.LC_DATA_IN_CODE (commands_of image)) table c.in-Some.ensures.table)

pub returns-in-None : goal.returns-in-None
returns-in-None c =
    let image = c.args.image.now in
    c.new.ensures ∙ sym (no_table image (first_with_cmd image loader.LC_DATA_IN_CODE (commands_of image)) c.in-None.ensures.table)
