-- Found without this answer; with it a wrong body fails at once.
use Rattle.std.proofs.Common.{rules}
use Rattle.macho_spans.proofs.span.Span.shares.Goals as goal

pub returns-then-start-end : goal.returns-then-start-end
returns-then-start-end c = search rules
