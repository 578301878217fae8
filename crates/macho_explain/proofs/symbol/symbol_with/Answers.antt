use Rattle.std.proofs.Common.{◌≡◌, ◌∙◌, ◌+◌, ◌*◌, ◌/◌, ℕ, List, None, Some, ap, sym, arith}
use Rattle.std.specs.Option.{option_map}
use Rattle.std.proofs.lemmas.Option.{none-some, same_Some}
use Rattle.macho_fields.specs.Image.{commands_of}
use Rattle.macho_fields.specs.declared.header.loader.TheConstants as loader
use Rattle.macho_image.specs.Command.{first_with_cmd}
use Rattle.macho_image.specs.Symbol.{symtab_at}
use Rattle.macho_image.specs.declared.symbol.Symbol.{Symbol}
use Rattle.macho_image.specs.declared.symtab.Symtab.{Symtab}
use Rattle.macho_explain.specs.Explain.{IsSymbolAt}
use Rattle.macho_explain.proofs.SymbolsAt.{symbol_place}
use Rattle.macho_explain.proofs.symbol.symbol_with.Goals as goal

-- a symbol at the place is in the table that was found, if one was
no_table : (image : List ℕ) (k place : ℕ) → None ≡ option_map (symtab_at image) (first_with_cmd image loader.LC_SYMTAB (commands_of image)) → ¬ IsSymbolAt image k place
no_table image k place none is =
    let (c, first, at) = symbol_place image k place is in
    none-some (symtab_at image c) (none ∙ ap (option_map (symtab_at image)) first)

its_place : (image : List ℕ) (k place : ℕ) (symtab : Symtab) → Some symtab ≡ option_map (symtab_at image) (first_with_cmd image loader.LC_SYMTAB (commands_of image)) → IsSymbolAt image k place
    → place ≡ symtab.symoff + 16 * k
its_place image k place symtab some is =
    let (c, first, at) = symbol_place image k place is in
    let same = same_Some symtab (symtab_at image c) (some ∙ ap (option_map (symtab_at image)) first) in
    at ∙ ap (λ (t : Symtab). t.symoff + 16 * k) (sym same)

pub returns-in_err-symtab : goal.returns-in_err-symtab
returns-in_err-symtab c =
    rw c.from_residual.ensures (λ k is. no_table c.args.image.now k c.args.place (sym c.in_err-symtab.was ∙ c.symtab.ensures) is)

pub returns-in_err-offset : goal.returns-in_err-offset
returns-in_err-offset c = rw c.from_residual-in_err-offset.ensures (λ k is.
    let at = its_place c.args.image.now k c.args.place c.in_ok-symtab.field-0 (sym c.in_ok-symtab.was ∙ c.symtab.ensures) is in
    let past = c.in_err-offset.ensures in omega (arith, at, past))

pub returns-in_err-symbol : goal.returns-in_err-symbol
returns-in_err-symbol c = rw c.from_residual-in_err-symbol.ensures (λ k is.
    let at = its_place c.args.image.now k c.args.place c.in_ok-symtab.field-0 (sym c.in_ok-symtab.was ∙ c.symtab.ensures) is in
    let (less, past) = c.in_ok-offset.ensures in
    let same : c.in_ok-offset.offset / 16 ≡ k = omega (arith, at, less, past) in
    none-some is.0 (sym c.in_err-symbol.was ∙ (c.symbol.ensures ∙ rw same is.1)))

pub returns-then-symbol-place : goal.returns-then-symbol-place
returns-then-symbol-place c = λ k is.
    let at = its_place c.args.image.now k c.args.place c.in_ok-symtab.field-0 (sym c.in_ok-symtab.was ∙ c.symtab.ensures) is in
    let (less, past) = c.in_ok-offset.ensures in
    let same : c.in_ok-offset.offset / 16 ≡ k = omega (arith, at, less, past) in
    let found = same_Some c.in_ok-symbol.symbol is.0 (sym c.in_ok-symbol.was ∙ (c.symbol.ensures ∙ rw same is.1)) in
    c.if-symbol-place.true (ap (λ (s : Symbol). s.place) found ∙ is.2)
