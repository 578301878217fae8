-- Found without this answer; with it a wrong body fails at once.
use Rattle.std.proofs.Common.{rules}
use Rattle.macho_fields.proofs.bytes.u32_from.Goals as goal

pub returns-in-Little : goal.returns-in-Little
returns-in-Little c = search rules
