use Rattle.std.proofs.Common.{ℕ, ◌*◌, ◌<◌, List}
use Rattle.sha2.specs.Sha256.{IsRoundsAt}
use Rattle.macho_lanes.specs.Lanes.{lane, HasWords}
use Rattle.macho_lanes.proofs.block256.compress.Given as goal

abbrev pub invariant-schedule : goal.invariant-schedule
invariant-schedule l = (j : ℕ) (b : List ℕ) → j < 4 → HasWords (lane j l.fn.words) b
    → IsRoundsAt b (lane j l.state) (lane j l.w) (lane j l.v) (16 * l.turn)
