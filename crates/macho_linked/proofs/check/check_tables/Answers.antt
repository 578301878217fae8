use Rattle.macho_linked.proofs.Ranks.{none_before}
use Rattle.macho_linked.proofs.check.check_tables.Goals as goal

pub judge-requires-clause-kept : goal.judge-requires-clause-kept
judge-requires-clause-kept c = none_before c.args.image.now
