use Rattle.macho_text.proofs.Writers.{puts_fails, puts_last, puts_next}
use Rattle.macho_report.proofs.layout.write_layout_with.Goals as goal

pub returns-in_err-write_count-clause-text : goal.returns-in_err-write_count-clause-text
returns-in_err-write_count-clause-text g c = puts_fails _ c.from_residual.ensures.0 (rw c.slice_count.ensures at c.in_err-write_count.ensures.text)

pub returns-clause-text : goal.returns-clause-text
returns-clause-text g c = puts_next _ (rw c.slice_count.ensures at c.in_ok-write_count.ensures.text) (puts_last c.write_slices.ensures)
