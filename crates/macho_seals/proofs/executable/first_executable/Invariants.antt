use Rattle.macho_rules.proofs.Searches.{Searching}
use Rattle.macho_seals.specs.Executable.{RunsBytes}
use Rattle.macho_seals.proofs.executable.first_executable.Given as goal

-- each such segment is left
abbrev pub invariant-loop-segment : goal.invariant-loop-segment
invariant-loop-segment l =
    Searching (λ s. s.place) (λ s. RunsBytes l.signature s.image s.place) l.initial.segment-iterator l.segment-iterator
