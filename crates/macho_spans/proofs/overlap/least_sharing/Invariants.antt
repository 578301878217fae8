use Rattle.std.proofs.Common.{◌-◌}
use Rattle.macho_spans.specs.SearchSteps.{AreHalved}
use Rattle.macho_spans.proofs.overlap.least_sharing.Given as goal

-- what is sought is low or above it, and below high
abbrev pub invariant-loop-high : goal.invariant-loop-high
invariant-loop-high l = AreHalved l.items l.low l.high

abbrev pub decreases-loop-high : goal.decreases-loop-high
decreases-loop-high l = l.high - l.low
