use Rattle.macho_lanes.proofs.LaneWise.{rotated}
use Rattle.macho_lanes.proofs.block256.rotate_right.Goals as goal

pub returns : goal.returns
returns c = rotated c.args.by c.requires.0 c.requires.1 c.args.x c.fits-x.0
