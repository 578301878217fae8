use Rattle.macho_strict.proofs.CommandWalks.{AreNotedTo}
use Rattle.macho_strict.proofs.commands.NotedCommands.of.Given as goal

-- what the commands that were passed added
abbrev pub invariant-loop-command : goal.invariant-loop-command
invariant-loop-command l = AreNotedTo l.image l.initial.command-iterator l.command-iterator l.noted
