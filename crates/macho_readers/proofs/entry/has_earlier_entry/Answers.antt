use Rattle.std.proofs.Common.{◌≡◌, ◌<◌, true, rules, tests}
use Rattle.macho_image.specs.Command.{CommandView}
use Rattle.macho_tables.proofs.Found.{any_command}
use Rattle.macho_readers.specs.Entry.{is_entry}
use Rattle.macho_readers.proofs.entry.has_earlier_entry.Goals as goal

pub returns : goal.returns
returns c =
    any_command c.args.image.now c.commands.ensures.opened c.commands.ensures.commands (λ (v : CommandView). (v.place < c.args.command.now.place) × (is_entry v.cmd ≡ true)) c.any.result c.any.ensures.ran
    (λ x b q k. search (rules, tests))
