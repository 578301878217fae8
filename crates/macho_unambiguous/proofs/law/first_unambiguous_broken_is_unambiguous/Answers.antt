use Rattle.macho_unambiguous.proofs.Ranks.{first_unambiguous}
use Rattle.macho_unambiguous.proofs.law.first_unambiguous_broken_is_unambiguous.Goals as goal

pub returns : goal.returns
returns c = first_unambiguous c.args.file.now c.args.first c.requires
