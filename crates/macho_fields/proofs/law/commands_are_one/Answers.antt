use Rattle.macho_fields.proofs.Chains.{commands_unique}
use Rattle.macho_fields.proofs.law.commands_are_one.Goals as goal

pub returns : goal.returns
returns c = commands_unique c.args.image.now c.args.commands.now c.args.others.now c.requires.commands c.requires.others
