use Rattle.std.proofs.Common.{◌<◌, ◌+◌, ◌∷◌, ℕ, List, length, map, drop, take, ap, sym, ◌∙◌, arith}
use Rattle.macho_fields.specs.Bytes.{bytes_of}
use Rattle.std.proofs.lemmas.List.{length-map}
use Rattle.macho_image.specs.Symbol.{symbol_at, items_inside}
use Rattle.macho_image.specs.declared.symbol.Symbol.{Symbol}
use Rattle.macho_rows.specs.Symbols.{symbol_row}
use Rattle.macho_rows.specs.declared.image.KesvuotImage.{KesvuotImage}
use Rattle.macho_rows.proofs.Ranged.{none_left, one_left, within, items_few}
use Rattle.macho_rows.proofs.symbols.SymbolTableTable.next.Goals as goal

abbrev all : List ℕ → KesvuotImage → List Symbol
all image row = map (symbol_at image) (items_inside image row.symbols 16 row.symbol_count)

pub returns-in_err-symbol : goal.returns-in_err-symbol
returns-in_err-symbol c =
    let table = c.args.self.now in
    let items = all (bytes_of table.bytes) table.image.now in
    let none = none_left (symbol_row c.args.self.now.image.now.section_count) items c.args.cursor.now.items (sym c.in_err-symbol.ensures.steps.0 ∙ (c.range.ensures ∙ ap (λ xs. take 1 (drop c.args.cursor.now.items xs)) c.in_table-symbols.ensures)) in
    rw c.from_residual.ensures (none, none)

pub overflow_add-cursor : goal.overflow_add-cursor
overflow_add-cursor c =
    let table = c.args.self.now in
    let image = bytes_of table.bytes in
    let items = all image table.image.now in
    let less : c.args.cursor.now.items < length items = within (symbol_row c.args.self.now.image.now.section_count) items c.args.cursor.now.items c.in_ok-symbol.symbol c.next.new.self (sym c.in_ok-symbol.ensures.steps ∙ (c.range.ensures ∙ ap (λ xs. take 1 (drop c.args.cursor.now.items xs)) c.in_table-symbols.ensures)) in
    let few = items_few image table.image.now.symbols 16 table.image.now.symbol_count (omega arith) in
    omega (arith, less, few, length-map (items_inside image table.image.now.symbols 16 table.image.now.symbol_count) (symbol_at image), c.len.ensures.fits)

pub returns : goal.returns
returns c =
    let table = c.args.self.now in
    let items = all (bytes_of table.bytes) table.image.now in
    one_left (symbol_row c.args.self.now.image.now.section_count) items c.args.cursor.now.items c.in_ok-symbol.symbol c.next.new.self (sym c.in_ok-symbol.ensures.steps ∙ (c.range.ensures ∙ ap (λ xs. take 1 (drop c.args.cursor.now.items xs)) c.in_table-symbols.ensures))
    ∙ ap (λ r. r ∷ drop (c.args.cursor.now.items + 1) (map (symbol_row c.args.self.now.image.now.section_count) (all (bytes_of c.args.self.now.bytes) c.args.self.now.image.now))) (sym c.row_of.ensures)
