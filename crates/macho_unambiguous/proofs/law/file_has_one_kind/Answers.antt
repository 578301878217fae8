use Rattle.macho_unambiguous.proofs.FileModels.{one_kind}
use Rattle.macho_unambiguous.proofs.law.file_has_one_kind.Goals as goal

pub returns : goal.returns
returns c = one_kind c.args.file.now c.requires
