use Rattle.macho_text.proofs.Writers.{puts_same}
use Rattle.macho_text.proofs.Puts.{from_start, put_next, ended}
use Rattle.macho_lines.proofs.lines.write_count.Goals as goal

pub returns-clause-text : goal.returns-clause-text
returns-clause-text g c =
    puts_same (from_start _ _ _ c.new-line.ensures (put_next _ _ _ _ _ c.text.ensures (put_next _ _ _ _ _ c.decimal.ensures.text (ended _)))) c.write.ensures.text
