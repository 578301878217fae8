use Rattle.std.proofs.Common.{◌≡◌, ◌++◌, List}
use Rattle.macho_fields.specs.FirstPlace.{IsFirstOf}
use Rattle.macho_image.specs.declared.symbol.Symbol.{Symbol}
use Rattle.macho_rules.specs.Survey.{BeginsPast, LacksSection}
use Rattle.macho_rules.proofs.symbols.SymbolSurvey.of.Given as goal

-- these symbols were noted
abbrev pub invariant-loop-symbol : goal.invariant-loop-symbol
invariant-loop-symbol l =
    (goal.iterator-loop-symbol).can_next l.symbol-iterator × (goal.iterator-loop-symbol).is_finite l.symbol-iterator
    × ((seen : List Symbol) × (l.initial.symbol-iterator ≡ seen ++ l.symbol-iterator) × IsFirstOf (λ s. s.place) (BeginsPast l.limit) seen l.name
    × IsFirstOf (λ s. s.place) (LacksSection l.sections) seen l.section)
