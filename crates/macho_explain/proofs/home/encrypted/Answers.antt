use Rattle.std.proofs.Common.{ℕ, Contains, None, Option, rules, subst, tests}
use Rattle.std.specs.Option.{option_map}
use Rattle.macho_fields.specs.FirstPlace.{IsLeastPlace}
use Rattle.macho_fields.specs.Image.{commands_of}
use Rattle.macho_image.specs.Command.{CommandView}
use Rattle.macho_image.specs.declared.command.Command.{Command}
use Rattle.macho_tables.specs.Homes.{Encrypts}
use Rattle.macho_tables.proofs.Found.{each_command, first_command}
use Rattle.macho_explain.proofs.home.encrypted.Goals as goal

pub find-requires-clause-callable : goal.find-requires-clause-callable
find-requires-clause-callable c = each_command c.args.image.now c.commands.ensures.opened c.commands.ensures.commands (λ x q k. search (rules, tests)) (λ x is. search rules)

pub returns-in_err-command : goal.returns-in_err-command
returns-in_err-command c =
    let span = c.args.table.now.span in
    let image = c.args.image.now in
    let first = first_command image c.commands.ensures.opened c.commands.ensures.commands _ (λ (v : CommandView). Encrypts span image v.place) c.find.result c.find.ensures.ran (λ y b q k. search (rules, tests)) in
    let Encrypting : ℕ → Type 0 = λ place. Contains (commands_of image) place × Encrypts span image place in
    let none : IsLeastPlace Encrypting None = subst (λ (o : Option Command). IsLeastPlace Encrypting (option_map (λ (x : Command). x.place) o)) c.in_err-command.was first in
    rw c.from_residual.ensures (λ any.
    let (k, place, less, at, has) = any in
    let among : Contains (commands_of image) place = (k, less, at) in
    none place (among, has))
