use Rattle.std.proofs.Common.{[], ◌∷◌}
use Rattle.std.specs.Prelude.{codes}
use Rattle.macho_text.proofs.Puts.{put_next, put_last}
use Rattle.macho_text.proofs.Holding.{line_kept, line_lost, holds_more_fails}
use Rattle.macho_lines.proofs.lines.write_cdhash.Goals as goal

pub returns-in_err-begin : goal.returns-in_err-begin
returns-in_err-begin g c = holds_more_fails _ c.from_residual.ensures.0 c.in_err-begin.ensures.text

pub returns-in_err-word : goal.returns-in_err-word
returns-in_err-word g c =
    line_lost (codes "  cdhash " ∷ []) _ _ c.from_residual-in_err-word.ensures.0 c.in_ok-begin.ensures.text (put_next _ _ _ _ _ c.text.ensures (put_last _))
    (rw c.as_bytes.ensures.value at c.in_err-word.ensures.text)

pub returns : goal.returns
returns g c =
    line_kept (codes "  cdhash " ∷ []) _ _ c.in_ok-begin.ensures.text (put_next _ _ _ _ _ c.text.ensures (put_last _))
    (rw c.as_bytes.ensures.value at c.in_ok-word.ensures.text)
    (put_next _ _ _ _ _ c.text-2.ensures (put_next _ _ _ _ _ c.hex_bytes.ensures.text (put_next _ _ _ _ _ c.text-3.ensures (put_last _))))
