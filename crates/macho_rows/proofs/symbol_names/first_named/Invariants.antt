use Rattle.std.proofs.Common.{◌≡◌, drop}
use Rattle.macho_rows.specs.SymbolNames.{HasNameAmong, NoneBelow}
use Rattle.macho_rows.proofs.symbol_names.first_named.Given as goal

-- no symbol before this one has the name
abbrev pub invariant-loop-symbol : goal.invariant-loop-symbol
invariant-loop-symbol l =
    (goal.iterator-loop-symbol).can_next l.symbol-iterator
    × (goal.iterator-loop-symbol).is_finite l.symbol-iterator
    × (drop l.number l.initial.symbol-iterator ≡ l.symbol-iterator)
    × NoneBelow (HasNameAmong l.strings l.name) l.initial.symbol-iterator l.number
