use Rattle.std.proofs.Common.{◌-◌}
use Rattle.macho_fixups.proofs.NearRooms.{AreRead}
use Rattle.macho_fixups.proofs.location.near_rooms.Given as goal

-- the rooms of the segments that were passed were read
abbrev pub invariant-loop-index : goal.invariant-loop-index
invariant-loop-index l = AreRead l.image.bytes.now l.cursor l.index l.rooms

abbrev pub decreases-loop-index : goal.decreases-loop-index
decreases-loop-index l = 16 - l.index
