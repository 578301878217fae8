use Rattle.std.proofs.Common.{ℕ, Contains, sym, subst, rules, tests}
use Rattle.macho_fields.specs.FirstPlace.{IsLeastPlace}
use Rattle.macho_fields.specs.Image.{commands_of}
use Rattle.macho_image.specs.Command.{CommandView}
use Rattle.macho_tables.proofs.Found.{each_command, first_command}
use Rattle.macho_readers.specs.Commands.{RepeatsSingle}
use Rattle.macho_readers.proofs.once.single_repeated.Goals as goal

pub find-requires-clause-callable : goal.find-requires-clause-callable
find-requires-clause-callable c = each_command c.args.image.now c.commands.ensures.opened c.commands.ensures.commands (λ x q k. search (rules, tests)) (λ x is. search rules)

pub returns : goal.returns
returns c =
    subst (IsLeastPlace (λ (place : ℕ). Contains (commands_of c.args.image.now) place × RepeatsSingle c.args.image.now place)) (sym c.place_of.ensures)
    (first_command c.args.image.now c.commands.ensures.opened c.commands.ensures.commands _ (λ (v : CommandView). RepeatsSingle c.args.image.now v.place) c.find.result c.find.ensures.ran
    (λ y b q k. search (rules, tests)))
