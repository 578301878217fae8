use Rattle.std.proofs.Common.{◌≡◌, ◌+◌, ◌-◌, ◌≤◌, List, ℕ}
use Rattle.std.specs.Prelude.{sum}
use Rattle.macho_tables.specs.StartNumbers.{AreNumbers}
use Rattle.macho_explain.specs.Explain.{written}
use Rattle.macho_explain.proofs.functions.start_at.Given as goal

-- the address is that of the function before the place, which is not past a number at the offset
abbrev pub invariant-loop-place : goal.invariant-loop-place
invariant-loop-place l =
    (numbers : List ℕ) × AreNumbers l.table.bytes.now numbers l.place × (l.address ≡ written (l.base + sum numbers))
    × ((others : List ℕ) → AreNumbers l.table.bytes.now others l.offset → l.place ≤ l.offset)

abbrev pub decreases-loop-place : goal.decreases-loop-place
decreases-loop-place l = l.offset - l.place
