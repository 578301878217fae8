use Rattle.std.proofs.Common.{◌≡◌, ◌++◌, List}
use Rattle.macho_image.specs.Command.{CommandView}
use Rattle.macho_commands.proofs.CommandWalks.{thread_among}
use Rattle.macho_commands.proofs.thread.thread_entry.Given as goal

-- none of the commands that were passed is a thread
abbrev pub invariant-loop-command : goal.invariant-loop-command
invariant-loop-command l =
    (seen : List CommandView) × (l.initial.command-iterator ≡ seen ++ l.command-iterator)
    × (thread_among l.initial.command-iterator ≡ thread_among l.command-iterator)
