use Rattle.std.proofs.Common.{◌∙◌, ◌+◌, ◌-◌, ◌∷◌, sym, ap, refl, arith}
use Rattle.macho_fields.specs.Bytes.{bytes_of}
use Rattle.macho_c.specs.DataInCode.{entries_left}
use Rattle.macho_rows.specs.declared.cursor.KesvuotCursor.{KesvuotCursor}
use Rattle.macho_c.proofs.Entries.{next_left}
use Rattle.macho_c.proofs.data_in_code.DataInCodeTable.next.Goals as goal

pub returns : goal.returns
returns c =
    let held = c.args.self.now.image in
    let before = c.args.cursor.now in
    let at = c.begun-at.result in
    let after : KesvuotCursor = record { place = at.place + 8; commands = before.commands; segment = before.segment; items = at.items - 1 } in
    let some = c.if-at-eq0.false in
    next_left held.place (bytes_of held.bytes) before at after c.begun-at.ensures (omega (arith, some)) (c.contains_table.ensures.0 c.if-not-contains_table.false) refl refl
    ∙ ap (λ row. row ∷ entries_left held.place (bytes_of held.bytes) after) (sym c.row_of.ensures)
