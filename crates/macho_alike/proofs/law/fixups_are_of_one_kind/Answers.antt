use Rattle.macho_alike.proofs.BindAnswers.{one_kind_of_fixups}
use Rattle.macho_alike.proofs.law.fixups_are_of_one_kind.Goals as goal

pub returns : goal.returns
returns c = one_kind_of_fixups c.args.image.now c.requires
