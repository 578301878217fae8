use Rattle.macho_readers.proofs.Numbers.{one_of_number}
use Rattle.macho_unambiguous.proofs.law.number_has_one_segment.Goals as goal

pub returns : goal.returns
returns c = one_of_number c.args.image.now c.requires.number c.requires.name
