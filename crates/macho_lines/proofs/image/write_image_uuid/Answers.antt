use Rattle.macho_text.proofs.Holding.{holds_nothing, holds_same}
use Rattle.macho_lines.specs.Line.{uuid_line}
use Rattle.macho_lines.proofs.LineTexts.{found_nothing, found_text}
use Rattle.macho_lines.proofs.image.write_image_uuid.Goals as goal

pub returns-in-Some : goal.returns-in-Some
returns-in-Some g c = holds_same _ (found_text uuid_line _ _ _ c.in-Some.ensures) c.write_uuid.ensures

pub returns-in-None : goal.returns-in-None
returns-in-None g c = holds_nothing (found_nothing uuid_line _ _ c.in-None.ensures)
