use Rattle.macho_image.specs.Library.{is_library}
use Rattle.macho_image.specs.Views.{HaveLibraries}
use Rattle.macho_image.proofs.NotedRange.{as_seen, can_walk_seen, can_walk_range, have_libraries}
use Rattle.macho_image.proofs.image.Image.commands_with_libraries.Goals as goal

pub commands_in-requires : goal.commands_in-requires
commands_in-requires c = can_walk_seen c.self.view_is (can_walk_range _ c.self.invariant.opened (is_library _) c.self.inside.landmarks.libraries c.self.invariant.all.libraries)

pub returns-clause-libraries : goal.returns-clause-libraries
returns-clause-libraries c = as_seen HaveLibraries c.self.inside.landmarks.libraries c.self.view_is c.commands_in.ensures.commands (have_libraries _ c.self.invariant.opened c.self.inside.landmarks.libraries c.self.invariant.all.libraries)
