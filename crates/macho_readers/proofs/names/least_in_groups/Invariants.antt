use Rattle.macho_readers.proofs.SameNames.{Walked}
use Rattle.macho_readers.proofs.names.least_in_groups.Given as goal

-- the walk has passed so many items
abbrev pub invariant-loop-item : goal.invariant-loop-item
invariant-loop-item l = Walked l.items l.item-index l.first l.found
