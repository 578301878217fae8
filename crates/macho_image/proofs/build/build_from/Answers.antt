-- Found without this answer; with it a wrong body fails at once.
use Rattle.std.proofs.Common.{rules}
use Rattle.macho_image.proofs.build.build_from.Goals as goal

pub returns : goal.returns
returns c = search rules
