use Rattle.macho_unambiguous.proofs.FileModels.{one_subtype}
use Rattle.macho_unambiguous.proofs.law.slice_has_one_subtype.Goals as goal

pub returns : goal.returns
returns c = one_subtype c.args.file.now c.requires
