use Rattle.std.proofs.Common.{Contains}
use Rattle.macho_fields.specs.Symbol.{nsyms}
use Rattle.macho_image.specs.declared.symbol.Symbol.{Symbol}
use Rattle.macho_alike.proofs.SymbolTotals.{Counted}
use Rattle.macho_alike.proofs.symbol_total.symbol_total.Given as goal

-- the names of the symbols that were passed are counted
abbrev pub invariant-loop-symbol : goal.invariant-loop-symbol
invariant-loop-symbol l =
    (goal.iterator-loop-symbol).can_next l.symbol-iterator × (goal.iterator-loop-symbol).is_finite l.symbol-iterator
    × Counted l.image l.symtab.place (nsyms l.image l.symtab.place) l.symbol-iterator l.total
    × ((s : Symbol) → Contains l.symbol-iterator s → Contains l.initial.symbol-iterator s)
