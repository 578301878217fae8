-- Found without this answer; with it a wrong body fails at once.
use Rattle.std.proofs.Common.{rules}
use Rattle.macho_spans.proofs.span.Span.holds.Goals as goal

pub returns-then-self-place : goal.returns-then-self-place
returns-then-self-place c = search rules
