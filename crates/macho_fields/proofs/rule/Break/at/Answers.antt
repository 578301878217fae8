-- Found without this answer; with it a wrong body fails at once.
use Rattle.std.proofs.Common.{rules}
use Rattle.macho_fields.proofs.rule.Break.at.Goals as goal

pub returns-clause-place : goal.returns-clause-place
returns-clause-place c = search rules
