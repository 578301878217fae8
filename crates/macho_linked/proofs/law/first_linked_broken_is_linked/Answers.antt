use Rattle.macho_linked.proofs.Ranks.{first_linked}
use Rattle.macho_linked.proofs.law.first_linked_broken_is_linked.Goals as goal

pub returns : goal.returns
returns c = first_linked c.args.file.now c.args.first c.requires
