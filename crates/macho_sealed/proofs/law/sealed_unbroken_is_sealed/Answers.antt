use Rattle.macho_sealed.proofs.Sealed.{file_sealed}
use Rattle.macho_sealed.proofs.law.sealed_unbroken_is_sealed.Goals as goal

pub returns : goal.returns
returns c = file_sealed c.args.file.now c.requires.unbroken c.requires.linked c.requires.sealed
