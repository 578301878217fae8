use Rattle.std.proofs.Common.{slice_index, bit_and, bit_xor, ◌∙◌}
use Rattle.macho_lanes.proofs.LaneWise.{own, zipped}
use Rattle.macho_lanes.proofs.Rotations.{maj_short}
use Rattle.macho_lanes.proofs.block256.maj.Goals as goal

pub returns : goal.returns
returns c j h =
    let x = own c.args.x c.fits-x.0 in
    let y = own c.args.y c.fits-y.0 in
    let z = own c.args.z c.fits-z.0 in
    (zipped bit_xor y (zipped bit_and (zipped bit_xor x y) (zipped bit_xor y z))).each j h
    ∙ maj_short (slice_index c.args.x j) (slice_index c.args.y j) (slice_index c.args.z j)
