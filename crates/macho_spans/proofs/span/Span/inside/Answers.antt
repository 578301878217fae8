-- Found without this answer; with it a wrong body fails at once.
use Rattle.std.proofs.Common.{rules}
use Rattle.macho_spans.proofs.span.Span.inside.Goals as goal

pub returns-then-other-self : goal.returns-then-other-self
returns-then-other-self c = search rules

pub returns-else-other-self : goal.returns-else-other-self
returns-else-other-self c = search rules
