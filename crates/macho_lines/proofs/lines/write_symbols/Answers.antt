use Rattle.macho_text.proofs.Holding.{holds_more, holds_more_fails, holds_texts}
use Rattle.macho_text.proofs.Puts.{put_next, put_last}
use Rattle.macho_lines.proofs.lines.write_symbols.Goals as goal

pub returns-in_err-begin : goal.returns-in_err-begin
returns-in_err-begin g c = holds_more_fails _ c.from_residual.ensures.0 c.in_err-begin.ensures.text

pub returns : goal.returns
returns g c =
    holds_texts ((put_next _ _ _ _ _ c.text.ensures (put_next _ _ _ _ _ c.decimal.ensures.text (put_next _ _ _ _ _ c.text-2.ensures (put_last _))))) (holds_more c.in_ok-begin.ensures.text)
