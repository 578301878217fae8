use Rattle.std.proofs.Common.{◌/◌, ◌^◌}
use Rattle.macho_lanes.proofs.LaneWise.{own, splat, zipped}
use Rattle.macho_lanes.proofs.block256.shift_right.Goals as goal

pub returns : goal.returns
returns c = (zipped (λ x n. x / 2 ^ n) (own c.args.x c.fits-x.0) (splat c.args.by)).each
