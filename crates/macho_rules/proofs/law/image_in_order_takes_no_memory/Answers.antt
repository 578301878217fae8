use Rattle.macho_rules.proofs.FileMemory.{ordered_takes_none}
use Rattle.macho_rules.proofs.law.image_in_order_takes_no_memory.Goals as goal

pub returns : goal.returns
returns c = ordered_takes_none c.args.file.now c.requires.plain c.requires.order
