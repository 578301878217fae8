use Rattle.macho_text.proofs.Puts.{put_next, put_last}
use Rattle.macho_lines.proofs.fields.put_contents.Goals as goal

pub returns-clause-text : goal.returns-clause-text
returns-clause-text c =
    rw c.in-Some.is (put_next _ _ _ _ _ c.text-2.ensures (put_next _ _ _ _ _ c.hex.ensures.text (put_last _)))
