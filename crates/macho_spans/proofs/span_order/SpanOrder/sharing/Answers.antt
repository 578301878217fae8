-- Found without this answer; with it a wrong body fails at once.
use Rattle.std.proofs.Common.{rules}
use Rattle.macho_spans.proofs.span_order.SpanOrder.sharing.Goals as goal

pub returns-in-Unordered : goal.returns-in-Unordered
returns-in-Unordered c = search rules
