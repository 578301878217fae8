-- Found without this answer; with it a wrong body fails at once.
use Rattle.std.proofs.Common.{rules}
use Rattle.macho_fields.proofs.file_type.file_type_of.Goals as goal

pub returns : goal.returns
returns c = search rules
