use Rattle.macho_readers.proofs.Numbers.{one_number}
use Rattle.macho_unambiguous.proofs.law.segment_has_one_number.Goals as goal

pub returns : goal.returns
returns c = one_number c.args.image.now c.requires
