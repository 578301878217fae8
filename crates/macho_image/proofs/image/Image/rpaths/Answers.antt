use Rattle.std.proofs.Common.{refl, sym, ap, ◌∙◌, subst}
use Rattle.macho_fields.specs.declared.header.loader.TheConstants as loader
use Rattle.macho_fields.specs.declared.load_command.Structure.TheVariants.{RpathCommand}
use Rattle.macho_image.specs.Command.{command_name}
use Rattle.macho_image.specs.Rpath.{rpaths_left}
use Rattle.macho_image.specs.Views.{HoldNames}
use Rattle.macho_image.proofs.Kept.{all_kept, all_seen}
use Rattle.macho_image.proofs.Named.{all_names_held}
use Rattle.macho_image.proofs.image.Image.rpaths.Goals as goal

pub invariant_of-result : goal.invariant_of-result
invariant_of-result c =
    subst (λ image. HoldNames image loader.LC_RPATH c.commands.result) (sym c.bytes.ensures.bytes)
    (all_names_held c.args.self.now c.commands.result loader.LC_RPATH RpathCommand refl refl c.commands.ensures.opened (all_kept c.args.self.now _ loader.LC_RPATH c.commands.ensures.commands))

pub returns : goal.returns
returns c =
    ap (λ image. rpaths_left image c.commands.result) c.bytes.ensures.bytes
    ∙ all_seen (command_name c.args.self.now) c.args.self.now c.commands.result loader.LC_RPATH (all_kept c.args.self.now _ loader.LC_RPATH c.commands.ensures.commands)
