use Rattle.std.proofs.Common.{◌≡◌, None, rules}
use Rattle.macho_text.proofs.Holding.{holds_all, holds_more, holds_more_fails, holds_texts, holds_then}
use Rattle.macho_text.proofs.Puts.{put_next, put_last}
use Rattle.macho_lines.proofs.lines.write_entry.Goals as goal

pub returns-in_err-begin : goal.returns-in_err-begin
returns-in_err-begin g c = holds_more_fails _ c.from_residual.ensures.0 c.in_err-begin.ensures.text

pub returns : goal.returns
returns g c =
    rw c.in-Some.is (holds_texts ((put_next _ _ _ _ _ c.text-2.ensures (put_next _ _ _ _ _ c.hex.ensures.text (put_next _ _ _ _ _ c.text-3.ensures (put_last _))))) (holds_more c.in_ok-begin.ensures.text))

pub returns-in_default : goal.returns-in_default
returns-in_default g c =
    let none : c.args.entry ≡ None = search rules in
    rw none (holds_then _ c.in_ok-begin.ensures.text (holds_all c.text.ensures))
