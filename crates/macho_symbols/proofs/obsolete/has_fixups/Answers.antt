use Rattle.std.proofs.Common.{◌≡◌, true, rules, tests}
use Rattle.macho_image.specs.Command.{CommandView}
use Rattle.macho_tables.specs.Kinds.{is_fixups}
use Rattle.macho_tables.proofs.Found.{any_command}
use Rattle.macho_symbols.proofs.obsolete.has_fixups.Goals as goal

pub returns : goal.returns
returns c =
    any_command c.args.image.now c.commands.ensures.opened c.commands.ensures.commands (λ (v : CommandView). is_fixups v.cmd ≡ true) c.any.result c.any.ensures.ran
    (λ x b q k. search (rules, tests))
