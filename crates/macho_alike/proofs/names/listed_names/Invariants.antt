use Rattle.macho_alike.proofs.NameLists.{AreListed}
use Rattle.macho_alike.proofs.names.listed_names.Given as goal

-- the symbols that were passed and have names are listed
abbrev pub invariant-loop-symbol : goal.invariant-loop-symbol
invariant-loop-symbol l =
    (goal.iterator-loop-symbol).can_next l.symbol-iterator × (goal.iterator-loop-symbol).is_finite l.symbol-iterator
    × AreListed l.image l.symtab.place l.initial.symbol-iterator l.symbol-iterator l.names.items
