use Rattle.macho_image.specs.Library.{DylibView}
use Rattle.macho_text.proofs.Holding.{holds_nothing, holds_same}
use Rattle.macho_lines.specs.Line.{library_line}
use Rattle.macho_lines.proofs.LineTexts.{found_nothing, found_text}
use Rattle.macho_lines.proofs.image.write_id.Goals as goal

pub returns-in-Some : goal.returns-in-Some
returns-in-Some g c =
    holds_same _ (found_text (λ (library : DylibView). library_line library.cmd library.name library.current library.compatible) _ _ _ c.in-Some.ensures) c.write_library.ensures

pub returns-in-None : goal.returns-in-None
returns-in-None g c = holds_nothing (found_nothing (λ (library : DylibView). library_line library.cmd library.name library.current library.compatible) _ _ c.in-None.ensures)
