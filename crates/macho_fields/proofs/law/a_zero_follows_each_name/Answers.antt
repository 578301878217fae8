use Rattle.macho_fields.proofs.Strings.{zero_after}
use Rattle.macho_fields.proofs.law.a_zero_follows_each_name.Goals as goal

pub returns : goal.returns
returns c = λ start end name. zero_after c.args.image.now start end (c.requires.names start end name)
