use Rattle.macho_symbols.proofs.SymbolWalks.{AreNoted}
use Rattle.macho_symbols.proofs.symbols.SymbolSurvey.of.Given as goal

-- the symbols that were passed are noted
abbrev pub invariant-loop-symbol : goal.invariant-loop-symbol
invariant-loop-symbol l =
    (goal.iterator-loop-symbol).can_next l.symbol-iterator × (goal.iterator-loop-symbol).is_finite l.symbol-iterator
    × AreNoted l.image l.initial.symbol-iterator l.symbol-iterator l.limits l.survey
