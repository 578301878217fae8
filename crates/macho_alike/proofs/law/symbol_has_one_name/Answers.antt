use Rattle.macho_alike.proofs.SymbolKinds.{one_name}
use Rattle.macho_alike.proofs.law.symbol_has_one_name.Goals as goal

pub returns : goal.returns
returns c = one_name c.args.image.now c.requires
