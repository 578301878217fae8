use Rattle.macho_rules.proofs.FileMemory.{taken_past_align}
use Rattle.macho_rules.proofs.law.memory_is_taken_past_fat_align.Goals as goal

pub returns : goal.returns
returns c = taken_past_align c.args.file.now c.requires
