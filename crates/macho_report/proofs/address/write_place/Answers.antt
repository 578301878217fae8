use Rattle.macho_text.proofs.Writers.{puts_same}
use Rattle.macho_text.proofs.Puts.{from_start, put_next, ended}
use Rattle.macho_report.proofs.address.write_place.Goals as goal

pub returns : goal.returns
returns g c =
    puts_same (from_start _ _ _ c.new-line.ensures (put_next _ _ _ _ _ c.text.ensures (put_next _ _ _ _ _ c.hex.ensures.text (ended _)))) c.write.ensures.text
