use Rattle.macho_strict.proofs.Ranks.{first_strict}
use Rattle.macho_strict.proofs.law.first_strictly_broken_is_strict.Goals as goal

pub returns : goal.returns
returns c = first_strict c.args.file.now c.args.first c.requires
