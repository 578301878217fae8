use Rattle.macho_rules.specs.Survey.{BreaksSegment}
use Rattle.macho_rules.proofs.Searches.{Searching}
use Rattle.macho_second.proofs.segments.judge.Given as goal

-- each segment that breaks the rule is left
abbrev pub invariant-loop-segment : goal.invariant-loop-segment
invariant-loop-segment g l =
    Searching (λ s. s.place) (BreaksSegment l.rule) l.initial.segment-iterator l.segment-iterator
