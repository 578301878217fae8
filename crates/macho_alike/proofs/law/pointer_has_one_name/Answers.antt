use Rattle.macho_alike.proofs.IndirectAnswers.{one_name_of_pointer}
use Rattle.macho_alike.proofs.law.pointer_has_one_name.Goals as goal

pub returns : goal.returns
returns c = one_name_of_pointer c.args.image.now c.requires
