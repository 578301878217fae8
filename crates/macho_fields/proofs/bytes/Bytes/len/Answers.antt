-- Found without this answer; with it a wrong body fails at once.
use Rattle.std.proofs.Common.{rules}
use Rattle.macho_fields.proofs.bytes.Bytes.len.Goals as goal

pub returns-clause-count : goal.returns-clause-count
returns-clause-count c = search rules
