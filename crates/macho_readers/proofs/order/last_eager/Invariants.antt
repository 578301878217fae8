use Rattle.std.proofs.Common.{◌≡◌, ◌++◌, List}
use Rattle.macho_image.specs.Command.{CommandView}
use Rattle.macho_readers.specs.Order.{IsEager}
use Rattle.macho_readers.proofs.Lasts.{IsLastIn}
use Rattle.macho_readers.proofs.order.last_eager.Given as goal

-- the last of the commands that were passed
abbrev pub invariant-loop-command : goal.invariant-loop-command
invariant-loop-command l =
    (seen : List CommandView) × (l.initial.command-iterator ≡ seen ++ l.command-iterator)
    × IsLastIn (λ (v : CommandView). v.place) (λ (v : CommandView). IsEager v.cmd) seen l.last
