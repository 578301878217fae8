use Rattle.std.proofs.Common.{sym, ◌∙◌}
use Rattle.macho_image.specs.Single.{main_command_at}
use Rattle.macho_image.proofs.FirstWithCmd.{first_given}
use Rattle.macho_image.proofs.image.Image.main_command.Goals as goal

pub returns : goal.returns
returns c = first_given main_command_at _ _ c.args.self.now c.in_ok-place.place _ c.main_command_from.ensures c.bytes.ensures.bytes (sym c.in_ok-place.was ∙ c.place_of.ensures.first)
