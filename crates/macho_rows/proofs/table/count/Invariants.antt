use Rattle.std.proofs.Common.{◌≡◌, ◌+◌, length}
use Rattle.macho_rows.specs.Cursor.{start}
use Rattle.macho_rows.proofs.table.count.Given as goal

-- the rows that were counted and those that remain are all
abbrev pub invariant-loop-cursor : goal.invariant-loop-cursor
invariant-loop-cursor g l = l.count + length (g.T.Table.left l.table l.cursor) ≡ length (g.T.Table.left l.table start)

abbrev pub decreases-loop-cursor : goal.decreases-loop-cursor
decreases-loop-cursor g l = length (g.T.Table.left l.table l.cursor)
