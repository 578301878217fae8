use Rattle.macho_rules.proofs.Searches.{Searching}
use Rattle.macho_rules.proofs.TableRange.{HasTableOutside}
use Rattle.macho_rules.proofs.tables.table_range.Given as goal

-- each command that names a table outside the image is left
abbrev pub invariant-loop-command : goal.invariant-loop-command
invariant-loop-command l =
    (goal.iterator-loop-command).can_next l.command-iterator × (goal.iterator-loop-command).is_finite l.command-iterator
    × Searching (λ v. v.place) (λ v. HasTableOutside l.image v.place) l.initial.command-iterator l.command-iterator
