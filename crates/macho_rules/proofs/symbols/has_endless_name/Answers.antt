-- Found without this answer; with it a wrong body fails at once.
use Rattle.std.proofs.Common.{rules}
use Rattle.macho_rules.proofs.symbols.has_endless_name.Goals as goal

pub returns-then-symbol-ne0 : goal.returns-then-symbol-ne0
returns-then-symbol-ne0 c = search rules
