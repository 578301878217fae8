use Rattle.macho_unambiguous.proofs.ImageModels.{one_entry}
use Rattle.macho_unambiguous.proofs.law.program_has_one_entry.Goals as goal

pub returns : goal.returns
returns c = one_entry c.args.image.now c.requires.layout c.requires.entry
