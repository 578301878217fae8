use Rattle.std.proofs.Common.{◌∙◌, None, Some, sym, ap, subst}
use Rattle.std.proofs.lemmas.Bool.{both_ways}
use Rattle.macho_fields.specs.FirstPlace.{IsLeastPlace}
use Rattle.macho_image.specs.declared.symtab.Symtab.{Symtab}
use Rattle.macho_rules.proofs.Searches.{search_next, search_found, search_ended}
use Rattle.macho_rules.proofs.SymbolItems.{symbols_search, symtab_first, symtab_read}
use Rattle.macho_alike.specs.Imports.{IsFromOther, BreaksImportLibrary}
use Rattle.macho_alike.proofs.ImportSymbols.{AtOther, breaks_where, no_others}
use Rattle.macho_alike.proofs.SymbolWalks.{symbols_break}
use Rattle.macho_alike.proofs.imports.first_from_other.Goals as goal

pub returns-in_err-symtab : goal.returns-in_err-symtab
returns-in_err-symtab c =
    let image = c.args.image.now in
    subst (IsLeastPlace (BreaksImportLibrary image)) (sym c.from_residual.ensures) (no_others image (c.in_err-symtab.ensures))

pub loop-symbol-init : goal.loop-symbol-init
loop-symbol-init c =
    let image = c.args.image.now in
    let symtab = c.in_ok-symtab.symtab in (
      tt,
      tt,
      record {
        first = symtab_first image symtab c.in_ok-symtab.ensures;
        search = symbols_search image _ (c.into_iter-symbol-iterator.ensures.into_iter_gives ∙ c.symbols-symbol-items.ensures) (IsFromOther image symtab.place);
      },
    )

pub returns-then-is_from_other : goal.returns-then-is_from_other
returns-then-is_from_other c =
    let image = c.args.image.now in
    let symtab = c.in_ok-symtab.symtab in
    let are = c.into_iter-symbol-iterator.ensures.into_iter_gives ∙ c.symbols-symbol-items.ensures in
    let left = c.loop-symbol.invariant.2 in
    let begins = ap (λ (t : Symtab). t.stroff) (symtab_read image symtab c.in_ok-symtab.ensures) in
    let says = (rw c.bytes.ensures.bytes at c.is_from_other.ensures) symtab.place begins c.requires.noted in
    breaks_where image (AtOther image) c.requires.two_level (Some c.in-Some.symbol.place)
    (search_found (AtOther image) (λ s. s.place) (IsFromOther image symtab.place) _ _ _ c.in-Some.symbol c.in-Some.ensures.steps (symbols_break image _ are c.requires.unbroken (IsFromOther image) symtab.place left.first)
    left.search (says.0 c.if-is_from_other.true))

pub loop-symbol-preserved : goal.loop-symbol-preserved
loop-symbol-preserved c =
    let image = c.args.image.now in
    let symtab = c.in_ok-symtab.symtab in
    let left = c.loop-symbol.invariant.2 in
    let begins = ap (λ (t : Symtab). t.stroff) (symtab_read image symtab c.in_ok-symtab.ensures) in
    let says = (rw c.bytes.ensures.bytes at c.is_from_other.ensures) symtab.place begins c.requires.noted in (
      tt,
      tt,
      record {
        first = left.first;
        search = search_next _ _ _ _ _ c.in-Some.symbol c.in-Some.ensures.steps left.search (λ here. both_ways c.is_from_other.result c.if-is_from_other.false (says.1 here));
      },
    )

pub returns : goal.returns
returns c =
    let image = c.args.image.now in
    let symtab = c.in_ok-symtab.symtab in
    let are = c.into_iter-symbol-iterator.ensures.into_iter_gives ∙ c.symbols-symbol-items.ensures in
    let left = c.loop-symbol.invariant.2 in
    breaks_where image (AtOther image) c.requires.two_level None
    (search_ended (AtOther image) (λ s. s.place) (IsFromOther image symtab.place) _ _ c.in-None.ensures.steps.0 (symbols_break image _ are c.requires.unbroken (IsFromOther image) symtab.place left.first) left.search)
