use Rattle.macho_fields.proofs.Ranks.{first_of_layout}
use Rattle.macho_fields.proofs.law.first_is_of_the_layout.Goals as goal

pub returns : goal.returns
returns c = first_of_layout c.args.file.now c.args.first c.requires
