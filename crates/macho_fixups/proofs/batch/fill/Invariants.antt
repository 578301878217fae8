use Rattle.std.proofs.Common.{◌≡◌, ◌≤◌, ◌++◌, ◌-◌, length, take, drop}
use Rattle.macho_fixups.proofs.batch.fill.Given as goal

-- the first rows and those that remain are those that remained at first, and the others are as they were
abbrev pub invariant-loop-written : goal.invariant-loop-written
invariant-loop-written g l = record {
  room : l.written ≤ length l.rows;
  rows : g.T.Fixups.left l.fixups l.initial.cursor ≡ take l.written l.rows ++ g.T.Fixups.left l.fixups l.cursor;
  rest : drop l.written l.rows ≡ drop l.written l.initial.rows;
}

abbrev pub decreases-loop-written : goal.decreases-loop-written
decreases-loop-written g l = length l.initial.rows - l.written
