use Rattle.macho_alike.proofs.BindPairs.{IsPassed}
use Rattle.macho_alike.proofs.binds.clash.Given as goal

-- the binds before this one do not clash, and the last one that was taken is known
abbrev pub invariant-loop-bind : goal.invariant-loop-bind
invariant-loop-bind l = IsPassed l.what l.image l.binds l.limit l.bind-index l.last
