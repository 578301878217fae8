use Rattle.std.proofs.Common.{◌∙◌, Some, sym, ap, subst}
use Rattle.std.proofs.lemmas.Bool.{both_ways}
use Rattle.macho_fields.specs.FirstPlace.{IsLeastPlace}
use Rattle.macho_image.specs.Symbol.{dysymtab_at}
use Rattle.macho_image.specs.declared.dysymtab.Dysymtab.{Dysymtab}
use Rattle.macho_rules.proofs.OneCommand.{first_at, no_first}
use Rattle.macho_symbols.specs.Obsolete.{IsObsolete, BreaksObsoleteTable}
use Rattle.macho_symbols.proofs.ObsoleteTables.{no_dysymtab, obsolete_there, none_there}
use Rattle.macho_symbols.proofs.obsolete.obsolete_table.Goals as goal

pub returns-in_err-dysymtab : goal.returns-in_err-dysymtab
returns-in_err-dysymtab c =
    subst (IsLeastPlace (BreaksObsoleteTable c.args.image.now)) (sym c.from_residual.ensures)
    (no_dysymtab c.args.image.now c.requires (no_first (dysymtab_at c.args.image.now) _ (sym c.in_err-dysymtab.was ∙ c.dysymtab.ensures)))

pub returns-then-is_obsolete : goal.returns-then-is_obsolete
returns-then-is_obsolete c =
    let image = c.args.image.now in
    let (d, first, same) = first_at (dysymtab_at image) _ c.in_ok-dysymtab.dysymtab (sym c.in_ok-dysymtab.was ∙ c.dysymtab.ensures) in
    let obsolete = c.is_obsolete.ensures.0 c.if-is_obsolete.true in
    subst (λ place. IsLeastPlace (BreaksObsoleteTable image) (Some place)) (ap (λ (t : Dysymtab). t.place) (sym same)) (obsolete_there image c.requires d first (subst (IsObsolete image) same obsolete))

pub returns-else-is_obsolete : goal.returns-else-is_obsolete
returns-else-is_obsolete c =
    let image = c.args.image.now in
    let (d, first, same) = first_at (dysymtab_at image) _ c.in_ok-dysymtab.dysymtab (sym c.in_ok-dysymtab.was ∙ c.dysymtab.ensures) in
    none_there image c.requires d first (λ obsolete. both_ways c.is_obsolete.result c.if-is_obsolete.false (c.is_obsolete.ensures.1 (subst (IsObsolete image) (sym same) obsolete)))
