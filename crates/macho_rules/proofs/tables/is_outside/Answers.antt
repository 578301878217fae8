-- Found without this answer; with it a wrong body fails at once.
use Rattle.std.proofs.Common.{rules, tests}
use Rattle.macho_rules.proofs.tables.is_outside.Goals as goal

pub returns-then-count-gt0 : goal.returns-then-count-gt0
returns-then-count-gt0 c = search (tests, rules)
