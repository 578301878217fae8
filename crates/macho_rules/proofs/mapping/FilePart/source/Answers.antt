-- Found without this answer; with it a wrong body fails at once.
use Rattle.std.proofs.Common.{rules}
use Rattle.macho_rules.proofs.mapping.FilePart.source.Goals as goal

pub returns-then-past-self : goal.returns-then-past-self
returns-then-past-self c = search rules
