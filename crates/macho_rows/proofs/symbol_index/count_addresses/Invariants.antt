use Rattle.std.proofs.Common.{◌≡◌, ◌+◌, ◌^◌, ◌≤◌, length, filter}
use Rattle.macho_rows.proofs.SymbolWalks.{has}
use Rattle.macho_rows.proofs.symbol_index.count_addresses.Given as goal

-- those that were counted and those that remain are all
abbrev pub invariant-loop-symbol : goal.invariant-loop-symbol
invariant-loop-symbol l =
    (goal.iterator-loop-symbol).can_next l.symbol-iterator
    × (goal.iterator-loop-symbol).is_finite l.symbol-iterator
    × (l.count + length (filter has l.symbol-iterator) ≡ length (filter has l.initial.symbol-iterator))
    × (l.count + length l.symbol-iterator ≤ 2 ^ 32)
