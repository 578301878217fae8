use Rattle.macho_readers.proofs.Numbers.{one_start}
use Rattle.macho_unambiguous.proofs.law.segment_has_one_start.Goals as goal

pub returns : goal.returns
returns c = one_start c.args.image.now c.requires
