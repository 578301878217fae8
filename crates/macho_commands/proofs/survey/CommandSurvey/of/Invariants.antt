use Rattle.std.proofs.Common.{◌≡◌, ◌++◌, List}
use Rattle.macho_image.specs.Command.{CommandView}
use Rattle.macho_commands.proofs.CommandWalks.{AreNoted}
use Rattle.macho_commands.proofs.survey.CommandSurvey.of.Given as goal

-- these commands were passed, and noted
abbrev pub invariant-loop-command : goal.invariant-loop-command
invariant-loop-command l =
    (seen : List CommandView) × (l.initial.command-iterator ≡ seen ++ l.command-iterator) × AreNoted l.image seen l.walk
