use Rattle.std.proofs.Common.{◌≡◌}
use Rattle.macho_image.specs.Command.{left_with_cmd}
use Rattle.macho_image.proofs.command.Commands.next_with_cmd.Given as goal

-- only commands of other kinds were skipped
abbrev pub invariant-loop-command : goal.invariant-loop-command
invariant-loop-command l =
    (goal.iterator-loop-command).can_next l.self × (goal.iterator-loop-command).is_finite l.self
    × (left_with_cmd l.wanted l.fn.self ≡ left_with_cmd l.wanted l.self)
