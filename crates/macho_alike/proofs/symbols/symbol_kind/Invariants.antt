use Rattle.macho_alike.proofs.SymbolWalks.{AreLeft}
use Rattle.macho_alike.proofs.symbols.symbol_kind.Given as goal

-- each symbol that is seen in two ways is left
abbrev pub invariant-loop-symbol : goal.invariant-loop-symbol
invariant-loop-symbol l =
    (goal.iterator-loop-symbol).can_next l.symbol-iterator × (goal.iterator-loop-symbol).is_finite l.symbol-iterator
    × AreLeft l.image l.readers l.initial.symbol-iterator l.symbol-iterator
