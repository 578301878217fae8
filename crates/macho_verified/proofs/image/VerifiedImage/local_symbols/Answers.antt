use Rattle.std.proofs.Common.{rules}
use Rattle.macho_fields.specs.Symbol.{ilocalsym, nlocalsym}
use Rattle.macho_rules.proofs.Groups.{local_listed}
use Rattle.macho_verified.proofs.SymbolGroups.{group_whole}
use Rattle.macho_verified.proofs.image.VerifiedImage.local_symbols.Goals as goal

pub returns-clause-symbols : goal.returns-clause-symbols
returns-clause-symbols c = c.group_of.ensures.symbols ilocalsym nlocalsym (λ groups bounds returned. search rules)

pub returns-clause-whole : goal.returns-clause-whole
returns-clause-whole c = group_whole c.args.self.now ilocalsym nlocalsym _ (returns-clause-symbols c) c.group_of.ensures.accepted (local_listed c.args.self.now)
