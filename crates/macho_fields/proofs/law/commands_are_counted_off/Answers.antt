use Rattle.macho_fields.proofs.Chains.{counted_off}
use Rattle.macho_fields.proofs.law.commands_are_counted_off.Goals as goal

pub returns : goal.returns
returns c = counted_off c.args.image.now c.args.commands.now c.requires
