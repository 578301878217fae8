use Rattle.macho_alike.proofs.SymbolKinds.{one_kind, same_groups}
use Rattle.macho_alike.proofs.law.symbol_has_one_kind.Goals as goal

pub returns-clause-kind : goal.returns-clause-kind
returns-clause-kind c = one_kind c.args.image.now c.requires

pub returns-clause-groups : goal.returns-clause-groups
returns-clause-groups c = same_groups c.args.image.now c.requires
