use Rattle.macho_strict.proofs.InFile.{first_place_inside}
use Rattle.macho_strict.proofs.law.first_strict_place_is_inside.Goals as goal

pub returns : goal.returns
returns c = first_place_inside c.args.file.now c.requires.unbroken c.args.first c.requires.first
