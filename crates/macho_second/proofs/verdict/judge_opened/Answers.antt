use Rattle.macho_second.proofs.Second.{decided_last}
use Rattle.macho_second.proofs.verdict.judge_opened.Goals as goal

pub returns : goal.returns
returns c = decided_last c.args.image.now c.entry.result c.entry.ensures
