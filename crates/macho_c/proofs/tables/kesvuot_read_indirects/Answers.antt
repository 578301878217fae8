use Rattle.macho_rows.proofs.AllSymbols.{has_indirects}
use Rattle.macho_c.proofs.tables.kesvuot_read_indirects.Goals as goal

pub returns-clause-all : goal.returns-clause-all
returns-clause-all c = λ shows. has_indirects c.args.file.now c.args.image.now shows
