use Rattle.macho_unambiguous.proofs.FileModels.{one_set}
use Rattle.macho_unambiguous.proofs.law.processor_has_one_set_of_slices.Goals as goal

pub returns : goal.returns
returns c = one_set c.args.file.now c.requires
