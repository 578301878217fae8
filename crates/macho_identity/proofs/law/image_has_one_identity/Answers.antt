use Rattle.macho_identity.proofs.OneIdentity.{image_one_identity}
use Rattle.macho_identity.proofs.law.image_has_one_identity.Goals as goal

pub returns : goal.returns
returns c = image_one_identity c.args.image.now c.requires
