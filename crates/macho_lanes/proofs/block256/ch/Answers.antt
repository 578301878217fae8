use Rattle.std.proofs.Common.{bit_and, bit_xor}
use Rattle.std.specs.Int.{w32, bit_not}
use Rattle.macho_lanes.proofs.LaneWise.{own, mapped, zipped}
use Rattle.macho_lanes.proofs.block256.ch.Goals as goal

pub returns : goal.returns
returns c =
    let x = own c.args.x c.fits-x.0 in
    let y = own c.args.y c.fits-y.0 in
    let z = own c.args.z c.fits-z.0 in
    (zipped bit_xor (zipped bit_and x y) (zipped bit_and (mapped (bit_not w32) x) z)).each
