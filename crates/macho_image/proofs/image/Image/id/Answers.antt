use Rattle.std.proofs.Common.{sym, ◌∙◌}
use Rattle.macho_image.specs.Library.{dylib_at}
use Rattle.macho_image.proofs.FirstWithCmd.{first_given}
use Rattle.macho_image.proofs.Libraries.{first_library}
use Rattle.macho_image.proofs.image.Image.id.Goals as goal

pub dylib_from-requires : goal.dylib_from-requires
dylib_from-requires c =
    first_library c.args.self.now _ c.in_ok-place.place c.place_of.result c.bytes.ensures.opened c.bytes.ensures.bytes c.place_of.ensures.first c.in_ok-place.was

pub returns : goal.returns
returns c = first_given dylib_at _ _ c.args.self.now c.in_ok-place.place _ c.dylib_from.ensures c.bytes.ensures.bytes (sym c.in_ok-place.was ∙ c.place_of.ensures.first)
