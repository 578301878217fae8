use Rattle.macho_rules.proofs.Searches.{Searching}
use Rattle.macho_strict.proofs.Encryptions.{HasMisplaced}
use Rattle.macho_strict.proofs.encrypted.first_misplaced.Given as goal

-- each command whose encrypted range is misplaced is left
abbrev pub invariant-loop-command : goal.invariant-loop-command
invariant-loop-command l =
    (goal.iterator-loop-command).can_next l.command-iterator × (goal.iterator-loop-command).is_finite l.command-iterator
    × Searching (λ v. v.place) (HasMisplaced l.image) l.initial.command-iterator l.command-iterator
