use Rattle.std.proofs.Common.{◌∙◌, refl, ap, sym, subst}
use Rattle.macho_fields.specs.declared.header.loader.TheConstants as loader
use Rattle.macho_fields.specs.declared.load_command.Structure.TheVariants.{BuildVersionCommand}
use Rattle.macho_image.specs.Build.{build_at, builds_left}
use Rattle.macho_image.specs.Views.{HoldBuilds}
use Rattle.macho_image.proofs.Kept.{all_inside, all_seen}
use Rattle.macho_image.proofs.image.Image.builds.Goals as goal

pub invariant_of-result : goal.invariant_of-result
invariant_of-result c =
    subst (λ image. HoldBuilds image c.commands_with_builds.result) (sym c.bytes.ensures.bytes)
    (all_inside c.args.self.now c.commands_with_builds.result loader.LC_BUILD_VERSION BuildVersionCommand refl c.commands_with_builds.ensures.opened c.commands_with_builds.ensures.builds)

pub returns : goal.returns
returns c =
    ap (λ image. builds_left image c.commands_with_builds.result) c.bytes.ensures.bytes
    ∙ all_seen (build_at c.args.self.now) c.args.self.now c.commands_with_builds.result loader.LC_BUILD_VERSION c.commands_with_builds.ensures.builds
