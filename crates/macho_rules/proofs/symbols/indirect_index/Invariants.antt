use Rattle.macho_fields.specs.Symbol.{NamesNoSymbol}
use Rattle.macho_rules.proofs.Searches.{Searching}
use Rattle.macho_rules.proofs.symbols.indirect_index.Given as goal

-- each entry that names no symbol is left
abbrev pub invariant-loop-entry : goal.invariant-loop-entry
invariant-loop-entry l =
    (goal.iterator-loop-entry).can_next l.entry-iterator × (goal.iterator-loop-entry).is_finite l.entry-iterator
    × Searching (λ e. e.place) (λ e. NamesNoSymbol l.count e.value) l.initial.entry-iterator l.entry-iterator
