use Rattle.macho_identity.proofs.StayingDirectories.{image_stays}
use Rattle.macho_identity.proofs.law.directory_stays_in_its_blob.Goals as goal

pub returns : goal.returns
returns c = image_stays c.args.image.now c.requires.blob c.requires.directory c.requires.whole
