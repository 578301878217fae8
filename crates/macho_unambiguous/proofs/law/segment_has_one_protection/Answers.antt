use Rattle.macho_unambiguous.proofs.ImageModels.{one_protection}
use Rattle.macho_unambiguous.proofs.law.segment_has_one_protection.Goals as goal

pub returns : goal.returns
returns c = one_protection c.args.image.now c.requires
