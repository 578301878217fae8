-- Found without this answer; with it a wrong body fails at once.
use Rattle.std.proofs.Common.{rules}
use Rattle.macho_fields.proofs.load_command.Width.size.Goals as goal

pub returns-in-Uint64 : goal.returns-in-Uint64
returns-in-Uint64 c = search rules
