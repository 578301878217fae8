use Rattle.macho_unambiguous.proofs.ImageModels.{one_section}
use Rattle.macho_unambiguous.proofs.law.names_have_one_section.Goals as goal

pub returns : goal.returns
returns c = one_section c.args.image.now c.requires
