-- Found without this answer; with it a wrong body fails at once.
use Rattle.std.proofs.Common.{rules, tests}
use Rattle.macho_rules.proofs.sections.is_in_file_part.Goals as goal

pub returns-then-from : goal.returns-then-from
returns-then-from c = search (tests, rules)
