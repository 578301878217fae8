use Rattle.macho_rules.specs.Survey.{BreaksSection}
use Rattle.macho_rules.proofs.Searches.{Searching}
use Rattle.macho_second.proofs.sections.judge.Given as goal

-- each section that breaks the rule is left
abbrev pub invariant-loop-section : goal.invariant-loop-section
invariant-loop-section g l =
    Searching (λ s. s.place) (BreaksSection l.rule) l.initial.section-iterator l.section-iterator
