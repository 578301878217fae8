use Rattle.macho_unambiguous.proofs.ImageModels.{one_platform}
use Rattle.macho_unambiguous.proofs.law.platform_has_one_command.Goals as goal

pub returns : goal.returns
returns c = one_platform c.args.image.now c.requires
