use Rattle.std.proofs.Common.{refl, sym}
use Rattle.sha2.proofs.Schedule256.{rounds_first}
use Rattle.macho_lanes.specs.Lanes.{lane}
use Rattle.macho_lanes.proofs.LaneWords.{slice_index-lane}
use Rattle.macho_lanes.proofs.block256.first_step.Goals as goal

pub returns : goal.returns
returns c j b h lt window held =
    rounds_first b h (lane j c.args.w.now) (lane j c.args.v) c.args.t _ _ _ c.requires window held refl
    (sym (slice_index-lane c.args.w.now j c.args.t)) (c.round.ensures j lt)
