-- Found without this answer; with it a wrong body fails at once.
use Rattle.std.proofs.Common.{rules}
use Rattle.macho_spans.proofs.spans.pairs.CountedPairs.starts_by.Goals as goal

pub returns-clause-probes : goal.returns-clause-probes
returns-clause-probes c = search rules
