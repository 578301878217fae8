use Rattle.macho_image.specs.Walk.{names_table}
use Rattle.macho_image.specs.Table.{HaveTables}
use Rattle.macho_image.proofs.NotedRange.{as_seen, can_walk_seen, can_walk_range, have_tables}
use Rattle.macho_image.proofs.image.Image.commands_with_tables.Goals as goal

pub commands_in-requires : goal.commands_in-requires
commands_in-requires c = can_walk_seen c.self.view_is (can_walk_range _ c.self.invariant.opened (names_table _) c.self.inside.landmarks.tables c.self.invariant.all.tables)

pub returns-clause-tables : goal.returns-clause-tables
returns-clause-tables c = as_seen HaveTables c.self.inside.landmarks.tables c.self.view_is c.commands_in.ensures.commands (have_tables _ c.self.invariant.opened c.self.inside.landmarks.tables c.self.invariant.all.tables)
