use Rattle.std.proofs.Common.{◌≡◌, ◌≤◌, ◌<◌, ◌^◌, ◌∷◌, ℕ, ◌∙◌, sym, ap, subst, arith}
use Rattle.macho_fields.specs.Bytes.{bytes_of}
use Rattle.macho_opcodes.specs.declared.streams.Stream.{Stream}
use Rattle.macho_rows.specs.declared.span.Held.{Held}
use Rattle.macho_fixups.specs.Opcodes.{imports_left, import_row, importing, position_of}
use Rattle.macho_fixups.specs.Streams.{bytes_in, stream_in, writes_left}
use Rattle.macho_fixups.specs.declared.cursor.KesvuotFixupCursor.{KesvuotFixupCursor}
use Rattle.macho_fixups.specs.declared.streams.Position.{Position}
use Rattle.macho_fixups.proofs.Cursors.{is_byte}
use Rattle.macho_fixups.proofs.OpcodeRows.{importing_starts, first_import, no_import}
use Rattle.macho_fixups.proofs.opcodes.OpcodeImportsFixups.next.Goals as goal

pub returns-in-Some : goal.returns-in-Some
returns-in-Some c =
    let streams = c.args.self.now.streams in
    let bytes = bytes_in streams in
    let places : Stream → ℕ = λ one. (stream_in streams one).place in
    let before = c.args.cursor.now in
    let at = c.next_write.new.at in
    let found = c.in-Some.ensures in
    let one = c.in-Some.one in
    let write = c.in-Some.write in
    let reached = c.cursor.ensures in
    let begins = c.importing-at.ensures ∙ ap importing c.position.ensures in
    let starts = importing_starts places bytes (position_of before) in
    let rises = subst (λ (p : Position). p.stream ≤ at.stream) begins found.rises in
    let near = subst (λ (cursor : KesvuotFixupCursor). cursor.segment < 2 ^ 8) reached.cursor reached.near in
    let fits = subst (λ (cursor : KesvuotFixupCursor). cursor.offset < 2 ^ 64) reached.cursor reached.fits in
    let some : 0 < at.stream = omega (arith, starts, rises) in
    let is = c.import_row.ensures ∙ ap (λ (held : Held). import_row held.place (bytes_of held.bytes) one write.walk) c.stream-stream.ensures in
    let first = ap (writes_left bytes) (sym begins) ∙ found.first in
    first_import places bytes at (is_byte at.walk.cursor.segment near) fits some before one write c.import_row.result first is
    ∙ ap (λ (cursor : KesvuotFixupCursor). c.import_row.result ∷ imports_left places bytes cursor) (sym reached.cursor)

pub returns-in-None : goal.returns-in-None
returns-in-None c =
    let streams = c.args.self.now.streams in
    let bytes = bytes_in streams in
    let places : Stream → ℕ = λ one. (stream_in streams one).place in
    let before = c.args.cursor.now in
    let at = c.next_write.new.at in
    let none = c.in-None.ensures in
    let reached = c.cursor-in-None.ensures in
    let begins = c.importing-at.ensures ∙ ap importing c.position.ensures in
    let starts = importing_starts places bytes (position_of before) in
    let rises = subst (λ (p : Position). p.stream ≤ at.stream) begins none.rises in
    let near = subst (λ (cursor : KesvuotFixupCursor). cursor.segment < 2 ^ 8) reached.cursor reached.near in
    let fits = subst (λ (cursor : KesvuotFixupCursor). cursor.offset < 2 ^ 64) reached.cursor reached.fits in
    let some : 0 < at.stream = omega (arith, starts, rises) in
    let over = no_import places bytes at (is_byte at.walk.cursor.segment near) fits some before (ap (writes_left bytes) (sym begins) ∙ none.first.0) none.first.1 in
    (over.0, ap (imports_left places bytes) reached.cursor ∙ over.1)
