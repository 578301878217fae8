use Rattle.std.proofs.Common.{◌≡◌, ◌∙◌, ◌<◌, ℕ, List, [], None, ap, arith, below_more, length, slice_index_or, subst, sym}
use Rattle.std.specs.Option.{option_map_or}
use Rattle.std.proofs.lemmas.Bool.{false≢true}
use Rattle.std.proofs.lemmas.List.{get_or_default}
use Rattle.macho_fields.specs.Bytes.{bytes_of}
use Rattle.macho_fields.specs.LoadCommands.{structure_of, table_fields}
use Rattle.macho_fields.specs.declared.load_command.TableFields.{TableFields}
use Rattle.macho_fields.specs.declared.load_command.Width.TheVariants.{Uint32}
use Rattle.macho_spans.specs.declared.span.Span.{Span}
use Rattle.macho_tables.specs.Homes.{HasHome}
use Rattle.macho_tables.proofs.Found.{match_none}
use Rattle.macho_explain.specs.Compared.{IsLostTable, span_shown}
use Rattle.macho_explain.proofs.home.first_homeless.Goals as goal
use Rattle.macho_explain.proofs.home.first_homeless.Goals.{else-is_looked_for-via-else-is_looked_for, else-is_looked_for-via-then-is_looked_for+else-table-gt0, else-is_looked_for-via-then-is_looked_for+then-table-gt0+in-None-1}

-- what an item is read as where there is none
abbrev none_read : TableFields
none_read = record { place = 0; count = 0; width = Uint32; item_size = 0 }

pub loop-fields-preserved : goal.loop-fields-preserved
loop-fields-preserved c =
    let image = bytes_of c.args.sliced.now.held.bytes in
    let place = c.args.sliced.now.place in
    let cmd = c.args.cmd in
    let items = c.tables_of-fields-items.result.now in
    let index = c.loop-fields.fields-index in
    let span = c.table_by-table.ensures.span in
    let Kept : ℕ → Type 0 = λ k. (fields : TableFields) → slice_index_or items k fields ≡ fields → ¬ IsLostTable image place cmd fields in
    let here : Kept index = λ fields at lost.
    let same : slice_index_or items index none_read ≡ fields = get_or_default items index none_read fields c.loop-fields-test.true ∙ at in
    let of_item : IsLostTable image place cmd (slice_index_or items index none_read) = subst (IsLostTable image place cmd) (sym same) lost in
    elim c.else-is_looked_for.branch [
      | else-is_looked_for-via-else-is_looked_for w ↦ false≢true (sym w.if-is_looked_for.false ∙ c.is_looked_for.ensures.1 of_item.0)
      | else-is_looked_for-via-then-is_looked_for+else-table-gt0 w ↦
          let len = ap (λ (s : Span). s.len) span in
          omega (arith, w.if-table-gt0.false, of_item.1.0, len)
      | else-is_looked_for-via-then-is_looked_for+then-table-gt0+in-None-1 w ↦
          let missing : w.homeless.result ≡ None = cc in
          let home = match_none _ _ w.homeless.result w.homeless.ensures missing in
          let shown = span_shown image place (slice_index_or items index none_read) in
          of_item.1.1 (subst (λ (i : List ℕ). HasHome shown i) c.requires (subst (λ (s : Span). HasHome s c.args.image.now) span home))
    ] in
    below_more Kept index c.loop-fields.invariant here

pub returns : goal.returns
returns c =
    let items = c.tables_of-fields-items.result.now in
    let all : items ≡ option_map_or table_fields (structure_of c.args.cmd) [] = c.tables_of-fields-items.ensures in
    λ has.
    let (k, fields, less, at, lost) = has in
    let listed : k < length items = omega (arith, less, ap length all) in
    let here : slice_index_or items k fields ≡ fields = ap (λ xs. slice_index_or xs k fields) all ∙ at in
    c.loop-fields.invariant k (omega (arith, listed, c.loop-fields-test.false)) fields here lost
