use Rattle.std.proofs.Common.{length}
use Rattle.macho_alike.specs.declared.binds.Compared.TheVariants as compared
use Rattle.macho_alike.proofs.BindPairs.{IsPassed}
use Rattle.macho_alike.proofs.binds.agree_in_names.Given as goal

-- the binds before this one do not clash, and the last one is known
abbrev pub invariant-loop-bind : goal.invariant-loop-bind
invariant-loop-bind l = IsPassed compared.Names l.image l.binds (length l.image) l.bind-index l.last
