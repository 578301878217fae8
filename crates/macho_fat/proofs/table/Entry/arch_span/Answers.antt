-- Found without this answer; with it a wrong body fails at once.
use Rattle.std.proofs.Common.{rules}
use Rattle.macho_fat.proofs.table.Entry.arch_span.Goals as goal

pub returns-clause-start : goal.returns-clause-start
returns-clause-start c = search rules
