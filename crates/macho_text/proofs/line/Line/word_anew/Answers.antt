use Rattle.macho_text.proofs.Holding.{holds_anew, holds_fault, holds_none}
use Rattle.macho_text.proofs.line.Line.word_anew.Goals as goal

pub returns-in_err-hand_on-clause-text : goal.returns-in_err-hand_on-clause-text
returns-in_err-hand_on-clause-text g c = holds_fault _ c.from_residual.ensures.0 c.in_err-hand_on.ensures.text

pub returns-then-has_room-clause-text : goal.returns-then-has_room-clause-text
returns-then-has_room-clause-text g c = holds_anew c.in_ok-hand_on.ensures.text (rw c.in_ok-hand_on.ensures.none at c.bytes.ensures)

pub returns-clause-text : goal.returns-clause-text
returns-clause-text g c = holds_none c.in_ok-hand_on.ensures.text c.in_ok-hand_on.ensures.none c.write_all.ensures.text
