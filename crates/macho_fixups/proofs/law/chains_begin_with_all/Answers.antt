use Rattle.macho_fixups.proofs.ChainSegments.{left_all}
use Rattle.macho_fixups.proofs.law.chains_begin_with_all.Goals as goal

pub returns : goal.returns
returns c = λ base header cursor before. left_all c.args.image.now base c.args.table.now header cursor before
