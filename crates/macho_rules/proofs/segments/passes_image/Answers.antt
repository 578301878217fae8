-- Found without this answer; with it a wrong body fails at once.
use Rattle.std.proofs.Common.{rules, tests}
use Rattle.macho_rules.proofs.segments.passes_image.Goals as goal

pub returns-then-filesize-gt0 : goal.returns-then-filesize-gt0
returns-then-filesize-gt0 c = search (tests, rules)
