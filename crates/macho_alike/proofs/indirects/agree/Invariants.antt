use Rattle.macho_alike.proofs.SaidOrders.{HaveAgreed}
use Rattle.macho_alike.proofs.indirects.agree.Given as goal

-- what is said before agrees, and the last of it is known
abbrev pub invariant-loop-one : goal.invariant-loop-one
invariant-loop-one l = HaveAgreed l.image l.said l.one-index l.last
