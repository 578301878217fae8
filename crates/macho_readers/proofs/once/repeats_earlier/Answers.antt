use Rattle.std.proofs.Common.{◌≡◌, ◌<◌, rules, tests}
use Rattle.macho_image.specs.Command.{CommandView}
use Rattle.macho_tables.proofs.Found.{any_command}
use Rattle.macho_readers.proofs.once.repeats_earlier.Goals as goal

pub returns : goal.returns
returns c =
    any_command c.args.image.now c.commands.ensures.opened c.commands.ensures.commands (λ (v : CommandView). (v.place < c.args.command.now.place) × (v.cmd ≡ c.args.command.now.cmd)) c.any.result c.any.ensures.ran
    (λ x b q k. search (rules, tests))
