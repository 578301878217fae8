use Rattle.std.proofs.Common.{List, subst}
use Rattle.macho_fields.specs.Bytes.{bytes_of}
use Rattle.macho_fixups.specs.Batch.{IsBatch}
use Rattle.macho_fixups.specs.Locations.{near_room}
use Rattle.macho_fixups.specs.Opcodes.{room_in}
use Rattle.macho_fixups.specs.Streams.{bytes_in, stream_bytes}
use Rattle.macho_fixups.specs.declared.cursor.KesvuotFixupCursor.{KesvuotFixupCursor}
use Rattle.macho_fixups.specs.declared.row.KesvuotFixup.{KesvuotFixup}
use Rattle.macho_fixups.proofs.Joined.{same_fixups}
use Rattle.macho_fixups.proofs.fixups.read_opcode_fixups.Goals as goal

pub returns : goal.returns
returns c =
    let image = bytes_of c.args.image.now.bytes in
    let fixups = c.of.result in
    subst (λ (left : KesvuotFixupCursor → List KesvuotFixup). IsBatch left c.args.cursor.now c.fill.new.cursor c.fill.result c.args.rows.now c.fill.new.rows)
    (same_fixups (bytes_of fixups.image) image (room_in fixups.rooms) (near_room image) (bytes_in fixups.streams) (stream_bytes image) c.of.ensures.image c.of.ensures.rooms c.of.ensures.streams)
    c.fill.ensures
