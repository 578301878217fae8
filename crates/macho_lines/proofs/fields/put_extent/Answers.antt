use Rattle.macho_text.proofs.Puts.{put_next, put_last}
use Rattle.macho_lines.proofs.fields.put_extent.Goals as goal

pub returns-clause-text : goal.returns-clause-text
returns-clause-text g c =
    put_next _ _ _ _ _ c.text.ensures (put_next _ _ _ _ _ c.bare_hex.ensures.text
    (put_next _ _ _ _ _ c.text-2.ensures (put_next _ _ _ _ _ c.bare_hex-2.ensures.text (put_last _))))
