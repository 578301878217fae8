use Rattle.std.proofs.Common.{◌≡◌, ◌-◌, ◌≤◌, ◌<◌, true, length, slice_index}
use Rattle.macho_rows.specs.SymbolIndex.{is_at_or_before, BeginsPast}
use Rattle.macho_rows.proofs.symbol_index.count_at_or_before.Given as goal

-- the entry before `low` begins at or before the address, and the one at `high` does not
abbrev pub invariant-loop-low : goal.invariant-loop-low
invariant-loop-low l = record {
  order : l.low ≤ l.high;
  within : l.high ≤ length l.index;
  before : 0 < l.low → is_at_or_before l.symbols l.address (slice_index l.index (l.low - 1)) ≡ true;
  past : BeginsPast l.symbols l.index l.address l.high;
}

abbrev pub decreases-loop-low : goal.decreases-loop-low
decreases-loop-low l = l.high - l.low
