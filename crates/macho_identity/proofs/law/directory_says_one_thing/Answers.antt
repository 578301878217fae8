use Rattle.macho_identity.proofs.ClearDirectories.{image_clear}
use Rattle.macho_identity.proofs.law.directory_says_one_thing.Goals as goal

pub returns : goal.returns
returns c = image_clear c.args.image.now c.requires
