use Rattle.macho_fields.proofs.Whole.{part_is_whole}
use Rattle.macho_fields.proofs.law.parts_are_whole.Goals as goal

pub returns : goal.returns
returns c = λ start len is. part_is_whole c.args.image.now c.args.commands.now start len c.requires is
