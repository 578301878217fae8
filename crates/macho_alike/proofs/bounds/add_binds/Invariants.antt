use Rattle.std.proofs.Common.{ℕ, get_or}
use Rattle.macho_alike.specs.Bounds.{WereGathered, IsBoundBy}
use Rattle.macho_alike.proofs.BindPairs.{no_bind}
use Rattle.macho_alike.proofs.Gathered.{OfBelow}
use Rattle.macho_alike.proofs.bounds.add_binds.Given as goal

-- the pointers of the binds before are added
abbrev pub invariant-loop-bind : goal.invariant-loop-bind
invariant-loop-bind l = WereGathered (OfBelow (λ (k : ℕ). IsBoundBy l.segments (get_or l.binds k no_bind)) l.bind-index) l.initial.bounds.items l.bounds.items
