-- Found without this answer; with it a wrong body fails at once.
use Rattle.std.proofs.Common.{rules}
use Rattle.macho_fields.proofs.load_command.Width.read.Goals as goal

pub returns-in-Uint64-clause-number : goal.returns-in-Uint64-clause-number
returns-in-Uint64-clause-number c = search rules
