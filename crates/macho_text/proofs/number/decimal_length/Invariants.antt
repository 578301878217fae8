use Rattle.std.proofs.Common.{◌≡◌, ◌-◌, ◌^◌, ◌<◌, ◌≤◌}
use Rattle.std.specs.Prelude.{◌⊎◌}
use Rattle.macho_text.proofs.number.decimal_length.Given as goal

-- the number has the digits that were counted
abbrev pub invariant-loop-count : goal.invariant-loop-count
invariant-loop-count l = record {
  some : 0 < l.count;
  most : l.count ≤ 20;
  low : (l.count - 1 ≡ 0) ⊎ (10 ^ (l.count - 1) ≤ l.fn.number);
}

abbrev pub decreases-loop-count : goal.decreases-loop-count
decreases-loop-count l = 20 - l.count
