use Rattle.macho_unambiguous.proofs.Bases.{one_base}
use Rattle.macho_unambiguous.proofs.law.image_has_one_base.Goals as goal

pub returns : goal.returns
returns c = one_base c.args.image.now c.requires.overlap c.requires.name
