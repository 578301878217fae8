use Rattle.macho_unambiguous.proofs.ImageModels.{one_kind}
use Rattle.macho_unambiguous.proofs.law.kind_has_one_command.Goals as goal

pub returns : goal.returns
returns c = one_kind c.args.image.now c.requires
