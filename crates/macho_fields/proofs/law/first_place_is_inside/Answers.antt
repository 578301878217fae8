use Rattle.macho_fields.proofs.InFile.{first_place_inside}
use Rattle.macho_fields.proofs.law.first_place_is_inside.Goals as goal

pub returns : goal.returns
returns c = first_place_inside c.args.file.now c.args.first c.requires
