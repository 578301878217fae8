use Rattle.macho_alike.proofs.DefinitionMeanings.{has_one_meaning, all_agree}
use Rattle.macho_alike.proofs.law.name_has_one_meaning.Goals as goal

pub returns-clause-ends : goal.returns-clause-ends
returns-clause-ends c = has_one_meaning c.args.image.now c.requires

pub returns-clause-all : goal.returns-clause-all
returns-clause-all c = all_agree c.args.image.now c.requires
