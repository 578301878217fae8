use Rattle.macho_text.proofs.Holding.{holds_begin, holds_fails, holds_last, holds_next}
use Rattle.macho_lines.proofs.image.write_segment_lines.Goals as goal

pub returns-in_err-write_segment : goal.returns-in_err-write_segment
returns-in_err-write_segment g c = holds_fails c.from_residual.ensures.0 holds_begin c.in_err-write_segment.ensures

pub returns : goal.returns
returns g c = holds_last (holds_next holds_begin c.in_ok-write_segment.ensures) c.write_sections.ensures
