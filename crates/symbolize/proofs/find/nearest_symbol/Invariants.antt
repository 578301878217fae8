use Rattle.symbolize.proofs.Searches.{IsNearestSoFar}
use Rattle.symbolize.proofs.find.nearest_symbol.Given as goal

abbrev pub invariant-loop-symbol : goal.invariant-loop-symbol
invariant-loop-symbol l = IsNearestSoFar l.address l.yielded l.nearest l.start
