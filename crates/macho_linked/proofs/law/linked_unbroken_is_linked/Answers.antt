use Rattle.macho_linked.proofs.Linked.{file_linked}
use Rattle.macho_linked.proofs.law.linked_unbroken_is_linked.Goals as goal

pub returns : goal.returns
returns c = file_linked c.args.file.now c.requires.unbroken c.requires.linked
