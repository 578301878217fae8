use Rattle.macho_alike.proofs.ImportSymbols.{has_one_library}
use Rattle.macho_alike.proofs.law.symbol_has_one_library.Goals as goal

pub returns : goal.returns
returns c = has_one_library c.args.image.now c.requires
