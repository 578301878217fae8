use Rattle.std.proofs.Common.{◌≡◌, ◌≤◌, ◌++◌, false, drop, length}
use Rattle.std.specs.Fmt.{digits}
use Rattle.macho_text.proofs.Digits.{last_digits}
use Rattle.macho_text.proofs.number.put_digits.Given as goal

-- the digits of what is left of the number go before those that were put
abbrev pub invariant-loop-start : goal.invariant-loop-start
invariant-loop-start g l = record {
  all_places : length l.places ≡ length l.fn.places;
  in_array : l.start ≤ length l.places;
  left : digits g.row.BASE false l.fn.number ≡ last_digits l.start g.row.BASE l.rest ++ drop l.start l.places;
}

abbrev pub decreases-loop-start : goal.decreases-loop-start
decreases-loop-start g l = l.start
