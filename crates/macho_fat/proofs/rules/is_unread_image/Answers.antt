-- Found without this answer; with it a wrong body fails at once.
use Rattle.std.proofs.Common.{rules}
use Rattle.macho_fat.proofs.rules.is_unread_image.Goals as goal

pub returns-in_default : goal.returns-in_default
returns-in_default c = search rules
