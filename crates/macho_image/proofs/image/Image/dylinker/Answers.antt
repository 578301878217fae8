use Rattle.std.proofs.Common.{Some, refl, sym, ap, ◌∙◌, subst}
use Rattle.std.specs.Option.{option_map}
use Rattle.macho_fields.specs.declared.header.loader.TheConstants as loader
use Rattle.macho_fields.specs.declared.load_command.Structure.TheVariants.{DylinkerCommand}
use Rattle.macho_image.specs.Command.{command_of, command_name}
use Rattle.macho_image.specs.Views.{HoldsName}
use Rattle.macho_image.proofs.Kept.{first_place, no_first}
use Rattle.macho_image.proofs.Named.{first_name_held}
use Rattle.macho_image.proofs.image.Image.dylinker.Goals as goal

pub returns-in_err-command : goal.returns-in_err-command
returns-in_err-command c =
    ap (option_map _) c.from_residual.ensures ∙ ap (option_map (command_name c.args.self.now)) (sym (no_first c.args.self.now _ c.in_err-command.ensures))

pub name_of-requires : goal.name_of-requires
name_of-requires c =
    subst (λ image. HoldsName image c.in_ok-command.command.place) (sym c.bytes.ensures.bytes)
    (first_name_held c.args.self.now loader.LC_LOAD_DYLINKER _ DylinkerCommand refl refl c.bytes.ensures.opened
    (first_place c.args.self.now _ (command_of c.in_ok-command.command) c.in_ok-command.ensures))

pub returns : goal.returns
returns c =
    ap Some (c.name_of.ensures ∙ ap (λ image. command_name image c.in_ok-command.command.place) c.bytes.ensures.bytes)
    ∙ ap (option_map (command_name c.args.self.now)) (sym (first_place c.args.self.now _ (command_of c.in_ok-command.command) c.in_ok-command.ensures))
