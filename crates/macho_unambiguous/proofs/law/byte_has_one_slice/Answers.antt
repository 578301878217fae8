use Rattle.macho_unambiguous.proofs.SliceBytes.{one_slice}
use Rattle.macho_unambiguous.proofs.law.byte_has_one_slice.Goals as goal

pub returns : goal.returns
returns c = one_slice c.args.file.now c.requires.overlap c.requires.page
