use Rattle.macho_rows.proofs.AllSymbols.{has_symbols}
use Rattle.macho_c.proofs.symbols.kesvuot_read_symbols.Goals as goal

pub returns-clause-all : goal.returns-clause-all
returns-clause-all c = λ shows. has_symbols c.args.file.now c.args.image.now shows
