use Rattle.macho_readers.proofs.Numbers.{one_ordinal}
use Rattle.macho_unambiguous.proofs.law.library_has_one_ordinal.Goals as goal

pub returns : goal.returns
returns c = one_ordinal c.args.image.now c.requires
