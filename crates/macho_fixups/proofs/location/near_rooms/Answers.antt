use Rattle.std.proofs.Common.{inr}
use Rattle.macho_fields.specs.Bytes.{bytes_of}
use Rattle.macho_fixups.proofs.NearRooms.{read_more, read_all}
use Rattle.macho_fixups.proofs.location.near_rooms.Goals as goal

pub returns-in_default : goal.returns-in_default
returns-in_default c =
    read_all (bytes_of c.args.image) c.loop-index.cursor c.loop-index.index c.loop-index.rooms c.loop-index.invariant (inr c.in_default.ensures.first.0)

pub loop-index-preserved : goal.loop-index-preserved
loop-index-preserved c =
    read_more (bytes_of c.args.image) c.loop-index.cursor c.loop-index.index c.loop-index.rooms c.loop-index.invariant c.next_wanted.new.cursor c.in-Some.load.place
    c.of.result c.loop-index-test.true c.in-Some.ensures.first c.of.ensures
