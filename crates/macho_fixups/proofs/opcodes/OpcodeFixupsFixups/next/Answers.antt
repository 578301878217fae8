use Rattle.std.proofs.Common.{◌≡◌, ◌<◌, ◌^◌, ◌∙◌, sym, ap, subst}
use Rattle.macho_fields.specs.Bytes.{bytes_of}
use Rattle.macho_fixups.specs.Opcodes.{fixups_left, position_of, room_in, cursor_of}
use Rattle.macho_fixups.specs.Streams.{bytes_in, writes_left}
use Rattle.macho_fixups.specs.declared.cursor.KesvuotFixupCursor.{KesvuotFixupCursor}
use Rattle.macho_fixups.specs.declared.walk.Walk.{Walk}
use Rattle.macho_fixups.proofs.Cursors.{is_byte}
use Rattle.macho_fixups.proofs.OpcodeRows.{next_opcode, none_over, none_there}
use Rattle.macho_fixups.proofs.opcodes.OpcodeFixupsFixups.next.Goals as goal

pub returns-in_default-next_write : goal.returns-in_default-next_write
returns-in_default-next_write c =
    let fixups = c.args.self.now in
    let image = bytes_of fixups.image in
    let rooms = room_in fixups.rooms in
    let bytes = bytes_in fixups.streams in
    let before = c.loop-row.cursor in
    let at = c.next_write.new.at in
    let here = c.in_default.ensures in
    let reached = c.cursor.ensures in
    let last = ap (writes_left bytes) (sym here.position ∙ sym c.position-at.ensures) ∙ c.in_default-next_write.ensures.first.0 in
    let near = subst (λ (cursor : KesvuotFixupCursor). cursor.segment < 2 ^ 8) reached.cursor reached.near in
    let fits = subst (λ (cursor : KesvuotFixupCursor). cursor.offset < 2 ^ 64) reached.cursor reached.fits in (
      c.loop-row.invariant ∙ none_over image rooms bytes before here.first.0 last,
      ap (fixups_left image rooms bytes) reached.cursor
          ∙ none_there image rooms bytes at 0 (is_byte at.walk.cursor.segment near) fits c.in_default-next_write.ensures.first.1,
    )

pub loop-row-preserved : goal.loop-row-preserved
loop-row-preserved c =
    let fixups = c.args.self.now in
    let image = bytes_of fixups.image in
    let rooms = room_in fixups.rooms in
    let bytes = bytes_in fixups.streams in
    let before = c.loop-row.cursor in
    let at = c.next_write.new.at in
    let here = c.in_default.ensures in
    let found = c.in-Some-next_write.ensures in
    let write = c.in-Some-next_write.write in
    let number = c.next_number.result in
    let reached = c.cursor-in-loop-row.ensures in
    let is = reached.cursor ∙ ap (λ (walk : Walk). cursor_of at walk write.count write.skip number) c.begun.ensures in
    let first = ap (writes_left bytes) (sym here.position ∙ sym c.position-at.ensures) ∙ found.first in
    let near = subst (λ (cursor : KesvuotFixupCursor). cursor.segment < 2 ^ 8) is reached.near in
    c.loop-row.invariant
    ∙ (next_opcode image rooms bytes before at c.in-Some-next_write.field-0-0 write number here.first.0 first found.stream found.count found.walk
    (is_byte write.walk.cursor.segment near) (c.next_number.ensures ∙ here.number)
    ∙ ap (fixups_left image rooms bytes) (sym is))
