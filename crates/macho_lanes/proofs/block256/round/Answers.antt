use Rattle.std.proofs.Common.{slice_index, refl}
use Rattle.macho_lanes.proofs.LaneWise.{splat}
use Rattle.macho_lanes.proofs.LaneWords.{round_lane}
use Rattle.macho_lanes.proofs.block256.round.Goals as goal

pub returns : goal.returns
returns c j h =
    let word = slice_index c.args.word j in
    round_lane c.args.v j c.args.k word (slice_index c.add-temp1.result j) (slice_index c.add-temp2.result j) _ _
    (rw (c.add-temp1.ensures j h, c.add-2.ensures j h, (splat c.args.k).each j h, c.add-chosen.ensures j h, c.add.ensures j h, c.big_sigma1.ensures j h, c.ch.ensures j h) refl)
    (rw (c.add-temp2.ensures j h, c.big_sigma0.ensures j h, c.maj.ensures j h) refl)
    (c.add-3.ensures j h)
    (c.add-4.ensures j h)
