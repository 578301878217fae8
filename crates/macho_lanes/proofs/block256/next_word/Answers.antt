use Rattle.macho_lanes.proofs.LaneWords.{window_lane}
use Rattle.macho_lanes.proofs.block256.next_word.Goals as goal

pub returns-clause-value : goal.returns-clause-value
returns-clause-value c j h =
    rw (c.add-word.ensures j h, c.add.ensures j h, c.add-near.ensures j h, c.small_sigma1.ensures j h, c.small_sigma0-far.ensures j h)
    (window_lane c.args.w.now j c.args.place c.requires)
