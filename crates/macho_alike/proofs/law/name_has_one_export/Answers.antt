use Rattle.macho_alike.proofs.ExportPaths.{one_export}
use Rattle.macho_alike.proofs.law.name_has_one_export.Goals as goal

pub returns : goal.returns
returns c = one_export c.args.image.now c.requires.node c.requires.total c.requires.edge
