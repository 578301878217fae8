use Rattle.std.proofs.Common.{◌<◌, ℕ, List, length, map, drop, take, ap, sym, ◌∙◌, arith}
use Rattle.macho_fields.specs.Bytes.{bytes_of}
use Rattle.std.proofs.lemmas.List.{length-map}
use Rattle.macho_image.specs.Symbol.{indirect_at, items_inside}
use Rattle.macho_image.specs.declared.indirect.Indirect.{Indirect}
use Rattle.macho_rows.specs.Symbols.{indirect_row}
use Rattle.macho_rows.specs.declared.image.KesvuotImage.{KesvuotImage}
use Rattle.macho_rows.proofs.Ranged.{none_left, one_left, within, items_few}
use Rattle.macho_rows.proofs.indirects.IndirectTableTable.next.Goals as goal

abbrev all : List ℕ → KesvuotImage → List Indirect
all image row = map (indirect_at image) (items_inside image row.indirects 4 row.indirect_count)

pub returns-in_err-entry : goal.returns-in_err-entry
returns-in_err-entry c =
    let table = c.args.self.now in
    let items = all (bytes_of table.bytes) table.image.now in
    let none = none_left (indirect_row) items c.args.cursor.now.items (sym c.in_err-entry.ensures.steps.0 ∙ (c.range.ensures ∙ ap (λ xs. take 1 (drop c.args.cursor.now.items xs)) c.in_table-entries.ensures)) in
    rw c.from_residual.ensures (none, none)

pub overflow_add-cursor : goal.overflow_add-cursor
overflow_add-cursor c =
    let table = c.args.self.now in
    let image = bytes_of table.bytes in
    let items = all image table.image.now in
    let less : c.args.cursor.now.items < length items = within (indirect_row) items c.args.cursor.now.items c.in_ok-entry.entry c.next.new.self (sym c.in_ok-entry.ensures.steps ∙ (c.range.ensures ∙ ap (λ xs. take 1 (drop c.args.cursor.now.items xs)) c.in_table-entries.ensures)) in
    let few = items_few image table.image.now.indirects 4 table.image.now.indirect_count (omega arith) in
    omega (arith, less, few, length-map (items_inside image table.image.now.indirects 4 table.image.now.indirect_count) (indirect_at image), c.len.ensures.fits)

pub returns : goal.returns
returns c =
    let table = c.args.self.now in
    let items = all (bytes_of table.bytes) table.image.now in
    one_left (indirect_row) items c.args.cursor.now.items c.in_ok-entry.entry c.next.new.self (sym c.in_ok-entry.ensures.steps ∙ (c.range.ensures ∙ ap (λ xs. take 1 (drop c.args.cursor.now.items xs)) c.in_table-entries.ensures))
