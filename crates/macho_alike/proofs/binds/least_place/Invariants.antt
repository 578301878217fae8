use Rattle.std.proofs.Common.{◌-◌, ◌≤◌, ℕ}
use Rattle.macho_alike.specs.BindLists.{AnyClashBy}
use Rattle.macho_alike.proofs.binds.least_place.Given as goal

-- some binds clash up to high, and none below low
abbrev pub invariant-loop-low : goal.invariant-loop-low
invariant-loop-low l =
    (l.low ≤ l.high) × AnyClashBy l.image l.binds l.high × ((place : ℕ) → AnyClashBy l.image l.binds place → l.low ≤ place)

abbrev pub decreases-loop-low : goal.decreases-loop-low
decreases-loop-low l = l.high - l.low
