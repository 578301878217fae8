-- Found without this answer; with it a wrong body fails at once.
use Rattle.std.proofs.Common.{rules}
use Rattle.macho_image.proofs.section.Section.flags.Goals as goal

pub returns-clause-number : goal.returns-clause-number
returns-clause-number c = search rules
