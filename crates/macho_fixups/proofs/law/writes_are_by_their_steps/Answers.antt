use Rattle.macho_fixups.specs.Walks.{no_walk}
use Rattle.macho_fixups.proofs.WalkLists.{walk_cursor, writes_apart}
use Rattle.macho_fixups.proofs.law.writes_are_by_their_steps.Goals as goal

pub returns-clause-apart : goal.returns-clause-apart
returns-clause-apart c = λ before rest. writes_apart before rest no_walk

pub returns-clause-cursor : goal.returns-clause-cursor
returns-clause-cursor c = λ before. walk_cursor before no_walk
