use Rattle.std.proofs.Common.{arith, ap, length}
use Rattle.std.proofs.lemmas.List.{length-append}
use Rattle.macho_text.proofs.line.Line.bare_hex.Goals as goal

pub returns-clause-end : goal.returns-clause-end
returns-clause-end c = omega (arith, simp length-append at (ap length c.number.ensures), c.hex_length.ensures.length)
