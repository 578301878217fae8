use Rattle.std.proofs.Common.{ℕ, List, subst}
use Rattle.macho_fields.specs.Bytes.{bytes_of}
use Rattle.macho_opcodes.specs.declared.streams.Stream.{Stream}
use Rattle.macho_fixups.specs.Batch.{IsBatch}
use Rattle.macho_fixups.specs.Streams.{bytes_in, stream_in, stream_bytes, stream_place}
use Rattle.macho_fixups.specs.declared.cursor.KesvuotFixupCursor.{KesvuotFixupCursor}
use Rattle.macho_fixups.specs.declared.row.KesvuotImport.{KesvuotImport}
use Rattle.macho_fixups.proofs.Joined.{same_imports}
use Rattle.macho_fixups.proofs.fixups.read_opcode_imports.Goals as goal

pub returns : goal.returns
returns c =
    let held = c.args.image.now in
    let image = bytes_of held.bytes in
    let streams = c.of.result.streams in
    let places : Stream → ℕ = λ one. (stream_in streams one).place in
    subst (λ (left : KesvuotFixupCursor → List KesvuotImport). IsBatch left c.args.cursor.now c.fill.new.cursor c.fill.result c.args.rows.now c.fill.new.rows)
    (same_imports places (stream_place held.place image) (bytes_in streams) (stream_bytes image) c.of.ensures.places c.of.ensures.bytes)
    c.fill.ensures
