use Rattle.std.proofs.Common.{◌≡◌, ◌∙◌, ◌<◌, ℕ, [], ap, arith, below_more, length, slice_index_or, subst, sym}
use Rattle.std.specs.Option.{option_map_or}
use Rattle.std.proofs.lemmas.List.{get_or_default}
use Rattle.macho_fields.specs.Bytes.{bytes_of}
use Rattle.macho_fields.specs.Image.{command_cmd}
use Rattle.macho_fields.specs.LoadCommands.{structure_of, table_fields}
use Rattle.macho_fields.specs.declared.load_command.TableFields.{TableFields}
use Rattle.macho_fields.specs.declared.load_command.Width.TheVariants.{Uint32}
use Rattle.macho_explain.specs.Compared.{IsTablePast}
use Rattle.macho_explain.proofs.command.table_range.Goals as goal
use Rattle.macho_explain.proofs.command.table_range.Goals.{else-table-gt0-via-then-table-gt0+else-table-len, else-table-gt0-via-else-table-gt0}

-- what an item is read as where there is none
abbrev none_read : TableFields
none_read = record { place = 0; count = 0; width = Uint32; item_size = 0 }

pub loop-fields-preserved : goal.loop-fields-preserved
loop-fields-preserved c =
    let image = bytes_of c.args.sliced.now.held.bytes in
    let place = c.args.sliced.now.place in
    let items = c.tables_of-fields-items.result.now in
    let table = c.table_by-table.ensures in
    let None : ℕ → Type 0 = λ k. (fields : TableFields) → slice_index_or items k fields ≡ fields → ¬ IsTablePast image place fields in
    let here : None c.loop-fields.fields-index = λ fields at past.
    let same : slice_index_or items c.loop-fields.fields-index none_read ≡ fields = get_or_default items c.loop-fields.fields-index none_read fields c.loop-fields-test.true ∙ at in
    let of_item : IsTablePast image place (slice_index_or items c.loop-fields.fields-index none_read) = subst (IsTablePast image place) (sym same) past in
    let some = table.some of_item.0 in
    elim c.else-table-gt0.branch [
      | else-table-gt0-via-then-table-gt0+else-table-len w ↦ omega (arith, w.if-table-len.false, table.end, of_item.1, c.from-len.ensures, c.len.ensures.count)
      | else-table-gt0-via-else-table-gt0 w ↦ omega (arith, w.if-table-gt0.false, some)
    ] in
    below_more None c.loop-fields.fields-index c.loop-fields.invariant here

pub returns : goal.returns
returns c =
    let image = bytes_of c.args.sliced.now.held.bytes in
    let place = c.args.sliced.now.place in
    let walked = c.in_ok-at.walked in
    let is = c.in_ok-at.ensures.1 in
    let items = c.tables_of-fields-items.result.now in
    let cmd : walked.load.cmd ≡ command_cmd image place = is.load.cmd ∙ ap (command_cmd image) is.meets in
    let all : items ≡ option_map_or table_fields (structure_of (command_cmd image place)) [] = c.tables_of-fields-items.ensures ∙ ap (λ n. option_map_or table_fields (structure_of n) []) cmd in
    λ has.
    let (k, fields, less, at, past) = has.1 in
    let listed : k < length items = omega (arith, less, ap length all) in
    let here : slice_index_or items k fields ≡ fields = ap (λ xs. slice_index_or xs k fields) all ∙ at in
    c.loop-fields.invariant k (omega (arith, listed, c.loop-fields-test.false)) fields here past
