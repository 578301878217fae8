use Rattle.std.proofs.Common.{rules}
use Rattle.macho_fields.specs.Symbol.{iundefsym, nundefsym}
use Rattle.macho_rules.proofs.Groups.{undefined_listed}
use Rattle.macho_verified.proofs.SymbolGroups.{group_whole}
use Rattle.macho_verified.proofs.image.VerifiedImage.undefined_symbols.Goals as goal

pub returns-clause-symbols : goal.returns-clause-symbols
returns-clause-symbols c = c.group_of.ensures.symbols iundefsym nundefsym (λ groups bounds returned. search rules)

pub returns-clause-whole : goal.returns-clause-whole
returns-clause-whole c = group_whole c.args.self.now iundefsym nundefsym _ (returns-clause-symbols c) c.group_of.ensures.accepted (undefined_listed c.args.self.now)
