-- Found without this answer; with it a wrong body fails at once.
use Rattle.std.proofs.Common.{rules}
use Rattle.macho_spans.proofs.overlap.SpanList.push.Goals as goal

pub returns-clause-more : goal.returns-clause-more
returns-clause-more c = search rules
