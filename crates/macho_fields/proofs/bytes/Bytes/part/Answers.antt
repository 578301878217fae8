-- Found without this answer; with it a wrong body fails at once.
use Rattle.std.proofs.Common.{rules}
use Rattle.macho_fields.proofs.bytes.Bytes.part.Goals as goal

pub returns-clause-inside : goal.returns-clause-inside
returns-clause-inside c = search rules
