use Rattle.macho_fields.specs.Symbol.{HasEndlessName}
use Rattle.macho_rules.proofs.Searches.{Searching}
use Rattle.macho_second.proofs.symbols.symbol_name.Given as goal

-- each symbol whose name does not end is left
abbrev pub invariant-loop-symbol : goal.invariant-loop-symbol
invariant-loop-symbol l =
    (goal.iterator-loop-symbol).can_next l.symbol-iterator × (goal.iterator-loop-symbol).is_finite l.symbol-iterator
    × Searching (λ s. s.place) (λ s. HasEndlessName l.image l.symtab.place s.place) l.initial.symbol-iterator l.symbol-iterator
