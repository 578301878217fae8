-- Found without this answer; with it a wrong body fails at once.
use Rattle.std.proofs.Common.{rules}
use Rattle.macho_fat.proofs.rules.fat_truncated.Goals as goal

pub new-requires-clause-table : goal.new-requires-clause-table
new-requires-clause-table c = search (rules, c.requires)
