use Rattle.std.specs.List.{AllAdjacentBelow}
use Rattle.macho_alike.specs.Claims.{AgreesWith}
use Rattle.macho_alike.proofs.claims.agree.Given as goal

-- each claim before this one agrees with the next
abbrev pub invariant-loop-index : goal.invariant-loop-index
invariant-loop-index l = AllAdjacentBelow AgreesWith l.claims l.index
