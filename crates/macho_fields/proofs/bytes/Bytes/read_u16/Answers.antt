-- Found without this answer; with it a wrong body fails at once.
use Rattle.std.proofs.Common.{arith}
use Rattle.std.proofs.lemmas.Grind.{common_steps}
use Rattle.macho_fields.proofs.bytes.Bytes.read_u16.Goals as goal

pub returns : goal.returns
returns c = grind (arith, common_steps)
