use Rattle.std.proofs.Common.{slice_index, arith}
use Rattle.macho_lanes.proofs.LaneWise.{lane_fits}
use Rattle.macho_lanes.proofs.Rotations.{rotated_three}
use Rattle.macho_lanes.proofs.block256.big_sigma0.Goals as goal

pub returns : goal.returns
returns c j h =
    rw (c.rotate_right-3.ensures j h, c.xor-2.ensures j h, c.rotate_right-2.ensures j h, c.xor.ensures j h, c.rotate_right.ensures j h)
    (rotated_three (slice_index c.args.x j) 2 11 9 (omega arith) (omega arith) (omega arith) (omega arith) (lane_fits c.args.x j c.fits-x h))
