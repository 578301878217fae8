use Rattle.macho_rules.proofs.Searches.{Searching}
use Rattle.macho_strict.specs.Rules.{HoldsHeaders}
use Rattle.macho_strict.proofs.segments.some_has_headers.Given as goal

-- each segment that has the headers is left
abbrev pub invariant-loop-segment : goal.invariant-loop-segment
invariant-loop-segment l = Searching (λ s. s.place) (λ s. HoldsHeaders s.image s.place) l.initial.segment-iterator l.segment-iterator
