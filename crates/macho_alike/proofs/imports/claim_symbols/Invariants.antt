use Rattle.macho_rules.proofs.Searches.{Searching}
use Rattle.macho_alike.specs.Claims.{AreAmong, IsUnclaimed}
use Rattle.macho_alike.proofs.imports.claim_symbols.Given as goal

-- what the symbols that were passed say is claimed
abbrev pub invariant-loop-symbol : goal.invariant-loop-symbol
invariant-loop-symbol l =
    (goal.iterator-loop-symbol).can_next l.symbol-iterator × (goal.iterator-loop-symbol).is_finite l.symbol-iterator
    × Searching (λ s. s.place) (IsUnclaimed l.image l.claims.items l.symtab.place) l.initial.symbol-iterator l.symbol-iterator
    × AreAmong l.initial.claims.items l.claims.items
