use Rattle.macho_unambiguous.proofs.CommandMeanings.{one_meaning}
use Rattle.macho_unambiguous.proofs.law.command_has_one_meaning.Goals as goal

pub returns : goal.returns
returns c = one_meaning c.args.image.now c.requires
