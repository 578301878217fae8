use Rattle.macho_unambiguous.proofs.ImageModels.{one_segment}
use Rattle.macho_unambiguous.proofs.law.name_has_one_segment.Goals as goal

pub returns : goal.returns
returns c = one_segment c.args.image.now c.requires
