use Rattle.std.proofs.Common.{refl}
use Rattle.macho_text.proofs.Holding.{holds_all, holds_written}
use Rattle.macho_text.proofs.line.Line.begin.Goals as goal

pub returns-then-self-clause-text : goal.returns-then-self-clause-text
returns-then-self-clause-text g c = holds_all refl

pub returns-clause-text : goal.returns-clause-text
returns-clause-text g c = holds_written c.hand_on.ensures.none c.hand_on.ensures.text
