-- Found without this answer; with it a wrong body fails at once.
use Rattle.std.proofs.Common.{rules}
use Rattle.macho_words.proofs.number.read_number.Goals as goal

pub returns-in-Some : goal.returns-in-Some
returns-in-Some c = search rules
