use Rattle.std.proofs.Common.{◌≡◌, ◌∙◌, ℕ, List, Option, None, Some, refl, sym, subst, ap₂}
use Rattle.std.specs.Prelude.{MatchOption}
use Rattle.std.specs.Option.{option_and_then}
use Rattle.macho_fields.specs.Layers.{NothingBreaks}
use Rattle.macho_fields.specs.Rules.{BreaksImage}
use Rattle.macho_rows.specs.BoundedTables.{found_table, IsWhole}
use Rattle.macho_rows.specs.Image.{image_in}
use Rattle.macho_rows.specs.Spans.{span_at}
use Rattle.macho_rows.specs.declared.bounded_tables.BoundedTable.{BoundedTable}
use Rattle.macho_rows.proofs.BoundedTables.{is_whole}
use Rattle.macho_c.specs.Status.{Answers}
use Rattle.macho_c.specs.Tables.{table_numbered, found_numbered, IsWholeNumbered}
use Rattle.macho_c.proofs.tables.kesvuot_find_table.Goals as goal

whole_numbered : (image : List ℕ) → NothingBreaks (BreaksImage image None) → (place number : ℕ) → IsWholeNumbered image place number (found_numbered place image number)
whole_numbered image unbroken place number = by (table_numbered number)
  where
    by : (o : Option BoundedTable) → MatchOption o (option_and_then (found_table place image) o ≡ None) (λ which. IsWhole image place which (option_and_then (found_table place image) o))
    by None = refl
    by (Some which) = is_whole image unbroken place which

pub returns : goal.returns
returns c =
    let row = c.args.image.now in
    let image = image_in c.args.file.now row in
    let is : c.found_numbered.result ≡ found_numbered row.slice.offset image c.args.table =
    c.found_numbered.ensures ∙ ap₂ (λ place bytes. found_numbered place bytes c.args.table) c.held.ensures.place c.held.ensures.bytes in
    record {
      answer = subst (Answers (span_at 0 0) c.answer.result c.answer.new.written) is c.answer.ensures;
      whole = λ unbroken. (c.found_numbered.result, subst (IsWholeNumbered image row.slice.offset c.args.table) (sym is) (whole_numbered image unbroken row.slice.offset c.args.table), c.answer.ensures);
    }
