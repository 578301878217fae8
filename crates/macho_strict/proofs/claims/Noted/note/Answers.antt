use Rattle.std.proofs.Common.{arith}
use Rattle.macho_strict.proofs.Claimed.{noted_empty}
use Rattle.macho_strict.proofs.claims.Noted.note.Goals as goal

pub returns-else-element-gt0 : goal.returns-else-element-gt0
returns-else-element-gt0 c = λ image elements are. noted_empty elements c.args.element image c.args.self.now (omega (arith, c.if-element-gt0.false)) are
