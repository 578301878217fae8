use Rattle.macho_rules.specs.Survey.{LacksSection}
use Rattle.macho_rules.proofs.Searches.{Searching}
use Rattle.macho_second.proofs.symbols.symbol_section.Given as goal

-- each symbol that is in no section is left
abbrev pub invariant-loop-symbol : goal.invariant-loop-symbol
invariant-loop-symbol l =
    (goal.iterator-loop-symbol).can_next l.symbol-iterator × (goal.iterator-loop-symbol).is_finite l.symbol-iterator
    × Searching (λ s. s.place) (LacksSection l.count) l.initial.symbol-iterator l.symbol-iterator
