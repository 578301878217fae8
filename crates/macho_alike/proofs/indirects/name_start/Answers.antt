use Rattle.std.proofs.Common.{◌∙◌, sym, arith, lit<}
use Rattle.macho_rules.proofs.SymbolItems.{strings_inside}
use Rattle.macho_fields.specs.declared.rule.Rule.TheVariants as rule
use Rattle.macho_alike.proofs.indirects.name_start.Goals as goal

-- the name begins in the strings
pub overflow_add-start : goal.overflow_add-start
overflow_add-start c =
    let named = c.stands_for_name.ensures.0 c.if-not-stands_for_name.false in
    let less = named.3 in
    let inside = strings_inside c.args.image.now c.in_ok-symtab.symtab (sym c.in_ok-symtab.was ∙ c.symtab.ensures) rule.SymbolName (lit< tt) (λ other place early. c.requires other place) (omega (arith, less)) in
    omega (arith, less, inside, c.name_offset.ensures, c.bytes.ensures.fits)
