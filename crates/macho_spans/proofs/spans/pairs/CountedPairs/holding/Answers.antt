-- Found without this answer; with it a wrong body fails at once.
use Rattle.std.proofs.Common.{arith}
use Rattle.std.proofs.lemmas.Grind.{common_steps}
use Rattle.macho_spans.proofs.spans.pairs.CountedPairs.holding.Goals as goal

pub returns-then-holds-clause-pair : goal.returns-then-holds-clause-pair
returns-then-holds-clause-pair c = grind (arith, common_steps)
