use Rattle.std.proofs.Common.{◌≡◌, ◌∙◌, ◌+◌, ◌*◌, ◌≤◌, ◌<◌, ◌∷◌, length, drop, true, sym, ap, inl, inr}
use Rattle.std.proofs.lemmas.Bool.{cases_lt}
use Rattle.macho_fields.specs.Bytes.{bytes_of}
use Rattle.macho_c.specs.Relocations.{relocation_row, relocation_rows}
use Rattle.macho_rows.proofs.Numbered.{none_past, next_row}
use Rattle.macho_c.proofs.Relocated.{none_outside, rows_are}
use Rattle.macho_c.proofs.relocations.RelocationsTable.next.Goals as goal

pub returns-then-not-contains_table : goal.returns-then-not-contains_table
returns-then-not-contains_table c =
    let table = c.args.self.now in
    let image = bytes_of table.image in
    let past : length image < table.reloff + table.nreloc * 8 = elim (cases_lt (length image) (table.reloff + table.nreloc * 8)) [ inl less ↦ less | inr most ↦ absurd (let is : c.contains_table.result ≡ true = c.contains_table.ensures.1 most in cc) ] in
    let none = none_outside (relocation_row image) image table.reloff 8 table.nreloc c.args.cursor.now.items past in
    (none, none)

pub returns-then-cursor-self : goal.returns-then-cursor-self
returns-then-cursor-self c =
    let table = c.args.self.now in
    let image = bytes_of table.image in
    let inside : table.reloff + table.nreloc * 8 ≤ length image = c.contains_table.ensures.0 c.if-not-contains_table.false in
    let none = none_past (λ k. relocation_row image (table.reloff + 8 * k)) table.nreloc (relocation_rows image table.reloff table.nreloc) (rows_are (relocation_row image) image table.reloff 8 table.nreloc inside) c.args.cursor.now.items c.if-cursor-self.true in
    (none, none)

pub returns : goal.returns
returns c =
    let table = c.args.self.now in
    let image = bytes_of table.image in
    let items = c.args.cursor.now.items in
    let inside : table.reloff + table.nreloc * 8 ≤ length image = c.contains_table.ensures.0 c.if-not-contains_table.false in
    next_row (λ k. relocation_row image (table.reloff + 8 * k)) table.nreloc (relocation_rows image table.reloff table.nreloc) (rows_are (relocation_row image) image table.reloff 8 table.nreloc inside) items c.if-cursor-self.false
    ∙ ap (λ row. row ∷ drop (items + 1) (relocation_rows image table.reloff table.nreloc)) (sym c.row_of.ensures)
