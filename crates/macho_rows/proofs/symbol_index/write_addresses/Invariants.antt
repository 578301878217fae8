use Rattle.std.proofs.Common.{◌≡◌, ◌+◌, ◌^◌, ◌≤◌, ◌++◌, length, take}
use Rattle.macho_rows.proofs.SymbolWalks.{numbers_from}
use Rattle.macho_rows.proofs.symbol_index.write_addresses.Given as goal

-- the indices that were written and those that remain are all
abbrev pub invariant-loop-symbol : goal.invariant-loop-symbol
invariant-loop-symbol l =
    (goal.iterator-loop-symbol).can_next l.symbol-iterator
    × (goal.iterator-loop-symbol).is_finite l.symbol-iterator
    × (take l.written l.index ++ numbers_from l.number l.symbol-iterator ≡ numbers_from 0 l.initial.symbol-iterator)
    × (l.written ≤ length l.index)
    × (length l.index ≡ length (numbers_from 0 l.initial.symbol-iterator))
    × (l.number + length l.symbol-iterator ≤ 2 ^ 32)
