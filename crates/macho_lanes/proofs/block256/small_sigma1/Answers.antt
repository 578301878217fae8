use Rattle.std.proofs.Common.{ℕ, ◌/◌, ◌^◌, slice_index, bit_xor, ap, arith}
use Rattle.macho_lanes.proofs.LaneWise.{lane_fits}
use Rattle.macho_lanes.proofs.Rotations.{rotated_two}
use Rattle.macho_lanes.proofs.block256.small_sigma1.Goals as goal

pub returns : goal.returns
returns c j h =
    let x = slice_index c.args.x j in
    rw (c.xor-2.ensures j h, c.rotate_right-2.ensures j h, c.xor.ensures j h, c.rotate_right.ensures j h, c.shift_right.ensures j h)
    (ap (λ (y : ℕ). bit_xor y (x / 2 ^ 10)) (rotated_two x 17 2 (omega arith) (omega arith) (omega arith) (lane_fits c.args.x j c.fits-x h)))
