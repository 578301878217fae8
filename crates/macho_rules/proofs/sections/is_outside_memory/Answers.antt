-- Found without this answer; with it a wrong body fails at once.
use Rattle.std.proofs.Common.{rules, tests}
use Rattle.macho_rules.proofs.sections.is_outside_memory.Goals as goal

pub returns-then-size-gt0 : goal.returns-then-size-gt0
returns-then-size-gt0 c = search (tests, rules)

pub returns-else-size-gt0 : goal.returns-else-size-gt0
returns-else-size-gt0 c = search (tests, rules)
