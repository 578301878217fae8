use Rattle.macho_alike.proofs.ImportSymbols.{AreLeft}
use Rattle.macho_alike.proofs.imports.first_from_other.Given as goal

-- each symbol that is from another library is left
abbrev pub invariant-loop-symbol : goal.invariant-loop-symbol
invariant-loop-symbol l =
    (goal.iterator-loop-symbol).can_next l.symbol-iterator × (goal.iterator-loop-symbol).is_finite l.symbol-iterator
    × AreLeft l.image l.initial.symbol-iterator l.symbol-iterator l.symtab.place
