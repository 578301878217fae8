use Rattle.std.proofs.Common.{◌≡◌, ◌+◌, ◌≤◌, ℕ, List, length, sym, subst, ◌∙◌, lit≤, lit<}
use Rattle.std.proofs.lemmas.Bool.{both_ways}
use Rattle.macho_fields.specs.Symbol.{HasEndlessName}
use Rattle.macho_fields.specs.declared.header.loader.TheConstants as loader
use Rattle.macho_fields.specs.declared.rule.Rule.TheVariants as rule
use Rattle.macho_image.specs.Symbol.{symtab_at, symbol_at}
use Rattle.macho_rules.proofs.Judged.{judged_found, judged_ended, judged_kept}
use Rattle.macho_rules.proofs.OneCommand.{no_first, none_with_cmd}
use Rattle.macho_rules.proofs.Searches.{search_next, one_of}
use Rattle.macho_rules.proofs.SymbolItems.{symbols_search, symbol_left, names_break, symtab_first, symtab_read, strings_inside}
use Rattle.macho_second.proofs.symbols.symbol_name.Goals as goal

pub returns-in_default : goal.returns-in_default
returns-in_default c =
    let image = c.args.image.now in
    judged_kept image rule.SymbolName (lit≤ tt) c.requires
    (λ p broken.
    let (symtab, has, rest) = one_of _ _ broken in none_with_cmd image loader.LC_SYMTAB (no_first (symtab_at image) _ (sym c.in_default.is ∙ c.symtab.ensures)) symtab has)

pub loop-symbol-init : goal.loop-symbol-init
loop-symbol-init c = (tt, tt, symbols_search c.args.image.now _ (c.into_iter-symbol-iterator.ensures.into_iter_gives ∙ c.symbols-symbol-items.ensures) _)

pub has_endless_name-requires : goal.has_endless_name-requires
has_endless_name-requires c =
    let are = c.into_iter-symbol-iterator.ensures.into_iter_gives ∙ c.symbols-symbol-items.ensures in
    let same = sym c.bytes-bytes.ensures.bytes in
    let is = sym c.in-Some.is ∙ c.symtab.ensures in
    record {
      symtab = subst (λ (bytes : List ℕ). c.in-Some.symtab ≡ symtab_at bytes c.in-Some.symtab.place) same (symtab_read c.args.image.now c.in-Some.symtab is);
      symbol = subst (λ (bytes : List ℕ). c.in-Some-symbol.symbol ≡ symbol_at bytes c.in-Some-symbol.symbol.place) same
          (symbol_left c.args.image.now _ are _ _ _ c.in-Some-symbol.symbol c.in-Some-symbol.ensures.steps c.loop-symbol.invariant.2);
      inside = λ some. subst (λ (bytes : List ℕ). c.in-Some.symtab.stroff + c.in-Some.symtab.strsize ≤ length bytes) same
          (strings_inside c.args.image.now c.in-Some.symtab is rule.SymbolName (lit< tt) c.requires some);
    }

pub returns-then-has_endless_name : goal.returns-then-has_endless_name
returns-then-has_endless_name c =
    let are = c.into_iter-symbol-iterator.ensures.into_iter_gives ∙ c.symbols-symbol-items.ensures in
    let first = symtab_first c.args.image.now c.in-Some.symtab (sym c.in-Some.is ∙ c.symtab.ensures) in
    judged_found c.args.image.now rule.SymbolName (lit≤ tt) c.requires _ _ _ (names_break c.args.image.now _ are rule.SymbolName (lit< tt) c.requires _ first) _ c.loop-symbol.invariant.2
    c.in-Some-symbol.symbol _ c.in-Some-symbol.ensures.steps
    (subst (λ (bytes : List ℕ). HasEndlessName bytes c.in-Some.symtab.place c.in-Some-symbol.symbol.place) c.bytes-bytes.ensures.bytes (c.has_endless_name.ensures.0 c.if-has_endless_name.true))
    c.at.result c.at.ensures.rule c.at.ensures.place

pub loop-symbol-preserved : goal.loop-symbol-preserved
loop-symbol-preserved c = (
  tt,
  tt,
  search_next _ _ _ _ _ c.in-Some-symbol.symbol c.in-Some-symbol.ensures.steps c.loop-symbol.invariant.2
      (λ here. both_ways c.has_endless_name.result c.if-has_endless_name.false
      (c.has_endless_name.ensures.1 (subst (λ (bytes : List ℕ). HasEndlessName bytes c.in-Some.symtab.place c.in-Some-symbol.symbol.place) (sym c.bytes-bytes.ensures.bytes) here))),
)

pub returns : goal.returns
returns c =
    let are = c.into_iter-symbol-iterator.ensures.into_iter_gives ∙ c.symbols-symbol-items.ensures in
    let first = symtab_first c.args.image.now c.in-Some.symtab (sym c.in-Some.is ∙ c.symtab.ensures) in
    judged_ended c.args.image.now rule.SymbolName (lit≤ tt) c.requires _ _ _
    (names_break c.args.image.now _ are rule.SymbolName (lit< tt) c.requires _ first) _ c.loop-symbol.invariant.2
    c.in-None.ensures.steps.0
