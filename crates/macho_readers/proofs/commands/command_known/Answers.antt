use Rattle.std.proofs.Common.{◌≡◌, false, sym, subst, rules, tests}
use Rattle.macho_fields.specs.FirstPlace.{IsLeastPlace}
use Rattle.macho_image.specs.Command.{CommandView}
use Rattle.macho_tables.proofs.Found.{first_command}
use Rattle.macho_readers.specs.Commands.{is_known, BreaksCommandKnown}
use Rattle.macho_readers.proofs.commands.command_known.Goals as goal

pub returns : goal.returns
returns c =
    subst (IsLeastPlace (BreaksCommandKnown c.args.image.now)) (sym c.place_of.ensures)
    (first_command c.args.image.now c.commands.ensures.opened c.commands.ensures.commands _ (λ (v : CommandView). is_known v.cmd ≡ false) c.find.result c.find.ensures.ran
    (λ y b q k. search (rules, tests)))
