use Rattle.std.proofs.Common.{arith}
use Rattle.macho_text.proofs.Texts.{listed_plain, plain_bytes}
use Rattle.macho_text.proofs.name.is_listed_plain.Goals as goal

pub returns : goal.returns
unfolding plain_bytes
returns c = listed_plain c.args.byte (omega arith)
