use Rattle.std.proofs.Common.{arith, ap, length}
use Rattle.std.proofs.lemmas.List.{length-append}
use Rattle.macho_text.proofs.line.Line.decimal.Goals as goal

pub returns-clause-end : goal.returns-clause-end
returns-clause-end c = omega (arith, simp length-append at (ap length c.number.ensures), c.decimal_length.ensures.length)
