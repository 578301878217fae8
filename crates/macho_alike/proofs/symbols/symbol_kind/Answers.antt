use Rattle.std.proofs.Common.{◌∙◌, sym, subst}
use Rattle.std.proofs.lemmas.Bool.{both_ways}
use Rattle.macho_fields.specs.FirstPlace.{IsLeastPlace}
use Rattle.macho_rules.proofs.Searches.{search_next, search_found, search_ended}
use Rattle.macho_rules.proofs.SymbolItems.{symbols_search, symtab_first, symtab_read}
use Rattle.macho_alike.specs.Symbols.{BreaksSymbolKind, IsSeenTwice}
use Rattle.macho_alike.proofs.SymbolWalks.{kinds_break, no_kinds}
use Rattle.macho_alike.proofs.symbols.symbol_kind.Goals as goal

-- Found without this answer, in a minute.
pub returns-in_err-symtab : goal.returns-in_err-symtab
returns-in_err-symtab c =
    let image = c.args.image.now in
    subst (IsLeastPlace (BreaksSymbolKind image)) (sym c.from_residual.ensures) (no_kinds image c.in_err-symtab.ensures)

pub loop-symbol-init : goal.loop-symbol-init
loop-symbol-init c =
    let image = c.args.image.now in
    let symtab = c.in_ok-symtab.symtab in (
      tt,
      tt,
      record {
        symtab = symtab.place;
        first = symtab_first image symtab c.in_ok-symtab.ensures;
        readers_are = c.of-readers.ensures symtab.place (symtab_read image symtab c.in_ok-symtab.ensures);
        search = symbols_search image _ (c.into_iter-symbol-iterator.ensures.into_iter_gives ∙ c.symbols-symbol-items.ensures) (IsSeenTwice image symtab.place);
      },
    )

pub returns-then-differ : goal.returns-then-differ
returns-then-differ c =
    let image = c.args.image.now in
    let are = c.into_iter-symbol-iterator.ensures.into_iter_gives ∙ c.symbols-symbol-items.ensures in
    let left = c.loop-symbol.invariant.2 in
    search_found (BreaksSymbolKind image) (λ s. s.place) (IsSeenTwice image left.symtab) _ _ _ c.in-Some.symbol c.in-Some.ensures.steps
    (kinds_break image _ are c.requires left.symtab left.first) left.search ((c.differ.ensures image left.symtab left.readers_are).0 c.if-differ.true)

pub loop-symbol-preserved : goal.loop-symbol-preserved
loop-symbol-preserved c =
    let image = c.args.image.now in
    let left = c.loop-symbol.invariant.2 in (
      tt,
      tt,
      record {
        symtab = left.symtab;
        first = left.first;
        readers_are = left.readers_are;
        search = search_next _ _ _ _ _ c.in-Some.symbol c.in-Some.ensures.steps left.search
            (λ here. both_ways c.differ.result c.if-differ.false ((c.differ.ensures image left.symtab left.readers_are).1 here));
      },
    )

pub returns : goal.returns
returns c =
    let image = c.args.image.now in
    let are = c.into_iter-symbol-iterator.ensures.into_iter_gives ∙ c.symbols-symbol-items.ensures in
    let left = c.loop-symbol.invariant.2 in
    search_ended (BreaksSymbolKind image) (λ s. s.place) (IsSeenTwice image left.symtab) _ _ c.in-None.ensures.steps.0
    (kinds_break image _ are c.requires left.symtab left.first) left.search
