-- Found without this answer; with it a wrong body fails at once.
use Rattle.std.proofs.Common.{rules}
use Rattle.macho_text.proofs.from_read.FromRead.new.Goals as goal

pub returns-clause-working : goal.returns-clause-working
returns-clause-working g c = search rules
