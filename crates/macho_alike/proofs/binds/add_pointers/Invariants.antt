use Rattle.macho_alike.specs.BindLists.{WereAdded, AreSpread}
use Rattle.macho_alike.proofs.binds.add_pointers.Given as goal

-- the first k were added
abbrev pub invariant-loop-k : goal.invariant-loop-k
invariant-loop-k l = WereAdded (AreSpread l.first l.k l.skip) l.initial.binds.items l.binds.items
