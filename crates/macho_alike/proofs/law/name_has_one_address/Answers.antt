use Rattle.macho_alike.proofs.TrieMeanings.{one_origin}
use Rattle.macho_alike.proofs.law.name_has_one_address.Goals as goal

pub returns : goal.returns
returns c = one_origin c.args.image.now c.requires
