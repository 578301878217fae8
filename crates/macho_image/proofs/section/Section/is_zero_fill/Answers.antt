-- Found without this answer; with it a wrong body fails at once.
use Rattle.std.proofs.Common.{rules, tests}
use Rattle.macho_image.proofs.section.Section.is_zero_fill.Goals as goal

pub returns-in_default : goal.returns-in_default
returns-in_default c = search (tests, rules)
