use Rattle.std.proofs.Common.{rules}
use Rattle.macho_second.proofs.entries.Entries.span.Goals as goal

pub place-place-requires : goal.place-place-requires
place-place-requires c = c.requires

pub returns-then-self-clause-start : goal.returns-then-self-clause-start
returns-then-self-clause-start c = search rules

pub returns-then-self-clause-len : goal.returns-then-self-clause-len
returns-then-self-clause-len c = search rules

pub returns-else-self-clause-start : goal.returns-else-self-clause-start
returns-else-self-clause-start c = search rules

pub returns-else-self-clause-len : goal.returns-else-self-clause-len
returns-else-self-clause-len c = search rules
