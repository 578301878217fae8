use Rattle.std.proofs.Common.{◌≡◌, true, sym, subst, rules, tests}
use Rattle.macho_fields.specs.FirstPlace.{IsLeastPlace}
use Rattle.macho_image.specs.Command.{CommandView}
use Rattle.macho_tables.specs.Kinds.{names_variants, BreaksFunctionVariants}
use Rattle.macho_tables.proofs.Found.{first_command}
use Rattle.macho_tables.proofs.kinds.function_variants.Goals as goal

pub returns : goal.returns
returns c =
    subst (IsLeastPlace (BreaksFunctionVariants c.args.image.now)) (sym c.place_of.ensures)
    (first_command c.args.image.now c.commands.ensures.opened c.commands.ensures.commands _ (λ (v : CommandView). names_variants v.cmd ≡ true) c.find.result c.find.ensures.ran
    (λ y b q k. search (rules, tests)))
