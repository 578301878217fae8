use Rattle.std.proofs.Common.{◌∙◌, lit≤, lit<}
use Rattle.std.proofs.lemmas.Bool.{both_ways}
use Rattle.macho_fields.specs.declared.rule.Rule.TheVariants as rule
use Rattle.macho_rules.proofs.Judged.{judged_found, judged_ended}
use Rattle.macho_rules.proofs.Searches.{search_next}
use Rattle.macho_rules.proofs.SymbolItems.{symbols_search, numbers_break}
use Rattle.macho_second.proofs.symbols.symbol_section.Goals as goal

pub loop-symbol-init : goal.loop-symbol-init
loop-symbol-init c = (tt, tt, symbols_search c.args.image.now _ (c.into_iter-symbol-iterator.ensures.into_iter_gives ∙ c.symbols-symbol-items.ensures) _)

pub returns-then-is_in_no_section : goal.returns-then-is_in_no_section
returns-then-is_in_no_section c =
    let are = c.into_iter-symbol-iterator.ensures.into_iter_gives ∙ c.symbols-symbol-items.ensures in
    judged_found c.args.image.now rule.SymbolSection (lit≤ tt) c.requires _ _ _
    (numbers_break c.args.image.now _ are rule.SymbolSection (lit< tt) c.requires _ c.section_count-count.ensures) _ c.loop-symbol.invariant.2 c.in-Some.symbol _ c.in-Some.ensures.steps
    (c.is_in_no_section.ensures.0 c.if-is_in_no_section.true) c.at.result c.at.ensures.rule c.at.ensures.place

pub loop-symbol-preserved : goal.loop-symbol-preserved
loop-symbol-preserved c = (
  tt,
  tt,
  search_next _ _ _ _ _ c.in-Some.symbol c.in-Some.ensures.steps c.loop-symbol.invariant.2
      (λ here. both_ways c.is_in_no_section.result c.if-is_in_no_section.false (c.is_in_no_section.ensures.1 here)),
)

pub returns : goal.returns
returns c =
    let are = c.into_iter-symbol-iterator.ensures.into_iter_gives ∙ c.symbols-symbol-items.ensures in
    judged_ended c.args.image.now rule.SymbolSection (lit≤ tt) c.requires _ _ _
    (numbers_break c.args.image.now _ are rule.SymbolSection (lit< tt) c.requires _ c.section_count-count.ensures) _
    c.loop-symbol.invariant.2 c.in-None.ensures.steps.0
