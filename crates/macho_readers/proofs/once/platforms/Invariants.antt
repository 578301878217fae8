use Rattle.std.proofs.Common.{◌≡◌, ◌++◌, List, map}
use Rattle.macho_image.specs.Command.{CommandView}
use Rattle.macho_readers.specs.Commands.{platform_span}
use Rattle.macho_readers.proofs.once.platforms.Given as goal

-- the platforms of the commands that were passed are listed
abbrev pub invariant-loop-command : goal.invariant-loop-command
invariant-loop-command l =
    (seen : List CommandView) × (l.initial.command-iterator ≡ seen ++ l.command-iterator)
    × (l.list.spans ≡ map (λ (v : CommandView). platform_span l.image v.place) seen)
