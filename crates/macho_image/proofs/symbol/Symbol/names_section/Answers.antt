-- Found without this answer; with it a wrong body fails at once.
use Rattle.std.proofs.Common.{rules, tests}
use Rattle.macho_image.proofs.symbol.Symbol.names_section.Goals as goal

pub returns-then-self-eq0 : goal.returns-then-self-eq0
returns-then-self-eq0 c = search (tests, rules)

pub returns-else-self-eq0 : goal.returns-else-self-eq0
returns-else-self-eq0 c = search (tests, rules)
