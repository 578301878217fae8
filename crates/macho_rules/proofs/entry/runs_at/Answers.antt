-- Found without this answer; with it a wrong body fails at once.
use Rattle.std.proofs.Common.{rules}
use Rattle.macho_rules.proofs.entry.runs_at.Goals as goal

pub returns-then-holds-2 : goal.returns-then-holds-2
returns-then-holds-2 c = search rules
