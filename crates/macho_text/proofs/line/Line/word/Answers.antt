use Rattle.macho_text.proofs.Holding.{holds_all}
use Rattle.macho_text.proofs.line.Line.word.Goals as goal

pub returns-then-has_room-clause-text : goal.returns-then-has_room-clause-text
returns-then-has_room-clause-text g c = holds_all c.bytes.ensures
