-- Found without this answer; with it a wrong body fails at once.
use Rattle.std.proofs.Common.{rules}
use Rattle.macho_fields.proofs.bytes.nonzero_index.Goals as goal

pub returns-clause-found : goal.returns-clause-found
returns-clause-found c = search rules
