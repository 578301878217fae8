use Rattle.std.proofs.Common.{◌≡◌}
use Rattle.macho_image.specs.Library.{libraries_left}
use Rattle.macho_image.proofs.library.next_library.Given as goal

-- only commands of other kinds were skipped
abbrev pub invariant-loop-command : goal.invariant-loop-command
invariant-loop-command l =
    (goal.iterator-loop-command).can_next l.commands × (goal.iterator-loop-command).is_finite l.commands
    × (libraries_left l.fn.commands ≡ libraries_left l.commands)
