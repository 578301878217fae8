use Rattle.macho_text.proofs.Puts.{put_next, put_last}
use Rattle.macho_lines.proofs.arch.put_arch_numbers.Goals as goal

pub returns-clause-text : goal.returns-clause-text
returns-clause-text c =
    put_next _ _ _ _ _ (rw c.from.ensures at c.hex.ensures.text)
    (put_next _ _ _ _ _ c.text.ensures
    (put_next _ _ _ _ _ (rw c.from-2.ensures at c.hex-2.ensures.text) (put_last _)))
