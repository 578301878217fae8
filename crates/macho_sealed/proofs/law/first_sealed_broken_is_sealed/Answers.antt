use Rattle.macho_sealed.proofs.Ranks.{first_sealed}
use Rattle.macho_sealed.proofs.law.first_sealed_broken_is_sealed.Goals as goal

pub returns : goal.returns
returns c = first_sealed c.args.file.now c.args.first c.requires
