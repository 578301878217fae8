use Rattle.macho_strict.proofs.Accounted.{unbroken_is_accounted}
use Rattle.macho_strict.proofs.law.strictly_unbroken_is_accounted.Goals as goal

pub returns : goal.returns
returns c = unbroken_is_accounted c.args.file.now c.requires.unbroken c.requires.strictly
