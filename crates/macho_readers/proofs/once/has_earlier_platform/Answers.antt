use Rattle.std.proofs.Common.{◌<◌, rules, tests}
use Rattle.macho_image.specs.Command.{CommandView}
use Rattle.macho_tables.proofs.Found.{each_command, any_command}
use Rattle.macho_readers.specs.Commands.{HasPlatform}
use Rattle.macho_readers.proofs.once.has_earlier_platform.Goals as goal

pub any-requires-clause-callable : goal.any-requires-clause-callable
any-requires-clause-callable c = each_command c.args.image.now c.commands.ensures.opened c.commands.ensures.commands (λ x q k. search (rules, tests)) (λ x is. search rules)

pub returns : goal.returns
returns c =
    any_command c.args.image.now c.commands.ensures.opened c.commands.ensures.commands (λ (v : CommandView). (v.place < c.args.place) × HasPlatform c.args.image.now v.place) c.any.result c.any.ensures.ran
    (λ x b q k. search (rules, tests))
