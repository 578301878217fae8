use Rattle.macho_fields.proofs.Chains.{command_places_rise}
use Rattle.macho_fields.proofs.law.command_places_rise.Goals as goal

pub returns : goal.returns
returns c = command_places_rise c.args.image.now c.args.commands.now c.requires
