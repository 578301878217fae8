use Rattle.std.proofs.Common.{ℕ, Contains, sym, subst, rules, tests}
use Rattle.macho_fields.specs.Bytes.{bytes_of}
use Rattle.macho_fields.specs.FirstPlace.{IsLeastPlace}
use Rattle.macho_fields.specs.Image.{commands_of}
use Rattle.macho_image.specs.Command.{CommandView}
use Rattle.macho_tables.proofs.Found.{each_command, first_command}
use Rattle.macho_readers.specs.Entry.{HasBadEntry}
use Rattle.macho_readers.proofs.entry.first_bad_entry.Goals as goal

pub find-requires-clause-callable : goal.find-requires-clause-callable
find-requires-clause-callable c = each_command c.args.image.now c.commands.ensures.opened c.commands.ensures.commands (λ x q k. search (rules, tests)) (λ x is. search rules)

pub returns : goal.returns
returns c =
    let image = c.args.image.now in
    subst (IsLeastPlace (λ (place : ℕ). Contains (commands_of image) place × HasBadEntry (bytes_of c.args.entries) image place)) (sym c.place_of.ensures)
    (first_command image c.commands.ensures.opened c.commands.ensures.commands _ (λ (v : CommandView). HasBadEntry (bytes_of c.args.entries) image v.place) c.find.result c.find.ensures.ran
    (λ y b q k. search (rules, tests)))
