use Rattle.macho_identity.proofs.OneBlob.{image_one_blob}
use Rattle.macho_identity.proofs.law.slot_has_one_blob.Goals as goal

pub returns : goal.returns
returns c = image_one_blob c.args.image.now c.requires
