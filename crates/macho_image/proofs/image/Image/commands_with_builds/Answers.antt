use Rattle.macho_fields.specs.declared.header.loader.TheConstants as loader
use Rattle.macho_image.specs.Walk.{has_cmd}
use Rattle.macho_image.specs.Views.{HaveAll}
use Rattle.macho_image.proofs.NotedRange.{as_seen, can_walk_seen, can_walk_range, have_all}
use Rattle.macho_image.proofs.image.Image.commands_with_builds.Goals as goal

pub commands_in-requires : goal.commands_in-requires
commands_in-requires c = can_walk_seen c.self.view_is (can_walk_range _ c.self.invariant.opened (has_cmd loader.LC_BUILD_VERSION _) c.self.inside.landmarks.builds c.self.invariant.all.builds)

pub returns-clause-builds : goal.returns-clause-builds
returns-clause-builds c = as_seen (HaveAll loader.LC_BUILD_VERSION) c.self.inside.landmarks.builds c.self.view_is c.commands_in.ensures.commands (have_all loader.LC_BUILD_VERSION _ c.self.invariant.opened c.self.inside.landmarks.builds c.self.invariant.all.builds)
