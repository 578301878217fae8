use Rattle.std.proofs.Common.{◌∙◌, ap, sym, subst}
use Rattle.macho_image.specs.Library.{dylibs_left}
use Rattle.macho_image.specs.Views.{HoldLibraries}
use Rattle.macho_image.proofs.Libraries.{all_hold, libraries_seen}
use Rattle.macho_image.proofs.image.Image.dylibs.Goals as goal

pub invariant_of-result : goal.invariant_of-result
invariant_of-result c =
    subst (λ image. HoldLibraries image c.commands_with_libraries.result) (sym c.bytes.ensures.bytes)
    (all_hold c.args.self.now c.commands_with_libraries.result c.commands_with_libraries.ensures.opened c.commands_with_libraries.ensures.libraries)

pub returns : goal.returns
returns c =
    ap (λ image. dylibs_left image c.commands_with_libraries.result) c.bytes.ensures.bytes
    ∙ libraries_seen c.args.self.now c.commands_with_libraries.result c.commands_with_libraries.ensures.libraries
