use Rattle.std.proofs.Common.{◌≡◌, length}
use Rattle.macho_fields.specs.Bytes.{bytes_of}
use Rattle.macho_fixups.specs.Opcodes.{fixups_left, position_of, room_in}
use Rattle.macho_fixups.specs.Streams.{bytes_in, writes_left}
use Rattle.macho_fixups.proofs.opcodes.OpcodeFixupsFixups.next.Given as goal

-- the opcodes that were passed have no pointer in their segment
abbrev pub invariant-loop-row : goal.invariant-loop-row
invariant-loop-row l =
    fixups_left (bytes_of l.self.image) (room_in l.self.rooms) (bytes_in l.self.streams) l.initial.cursor
    ≡ fixups_left (bytes_of l.self.image) (room_in l.self.rooms) (bytes_in l.self.streams) l.cursor

abbrev pub decreases-loop-row : goal.decreases-loop-row
decreases-loop-row l = length (writes_left (bytes_in l.self.streams) (position_of l.cursor))
