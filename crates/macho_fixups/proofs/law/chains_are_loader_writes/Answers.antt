use Rattle.std.proofs.Common.{arith}
use Rattle.macho_fixups.proofs.LoaderWrites.{loader_writes}
use Rattle.macho_fixups.proofs.law.chains_are_loader_writes.Goals as goal

pub returns : goal.returns
returns c = λ keeps. loader_writes c.args.image.now (omega arith) keeps
