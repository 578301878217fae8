use Rattle.std.proofs.Common.{sym, ◌∙◌}
use Rattle.macho_image.specs.Single.{uuid_at}
use Rattle.macho_image.proofs.FirstWithCmd.{first_given}
use Rattle.macho_image.proofs.image.Image.uuid.Goals as goal

pub returns : goal.returns
returns c = first_given uuid_at _ _ c.args.self.now c.in_ok-place.place _ c.uuid_from.ensures c.bytes.ensures.bytes (sym c.in_ok-place.was ∙ c.place_of.ensures.first)
