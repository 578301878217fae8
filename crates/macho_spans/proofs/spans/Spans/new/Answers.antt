-- Found without this answer; with it a wrong body fails at once.
use Rattle.std.proofs.Common.{rules}
use Rattle.macho_spans.proofs.spans.Spans.new.Goals as goal

pub returns-clause-none : goal.returns-clause-none
returns-clause-none c = search rules
