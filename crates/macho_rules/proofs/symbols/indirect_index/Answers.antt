use Rattle.std.proofs.Common.{◌∙◌, lit≤}
use Rattle.std.proofs.lemmas.Bool.{both_ways}
use Rattle.macho_fields.specs.declared.rule.Rule.TheVariants as rule
use Rattle.macho_rules.proofs.Judged.{judged_found, judged_ended}
use Rattle.macho_rules.proofs.Searches.{search_next}
use Rattle.macho_rules.proofs.SymbolItems.{indirects_search, indirects_break}
use Rattle.macho_rules.proofs.symbols.indirect_index.Goals as goal

pub loop-entry-init : goal.loop-entry-init
loop-entry-init c = (tt, tt, indirects_search c.args.image.now _ (c.into_iter-entry-iterator.ensures.into_iter_gives ∙ c.indirects-entry-items.ensures) _)

pub returns-then-names_no_symbol : goal.returns-then-names_no_symbol
returns-then-names_no_symbol c =
    let are = c.into_iter-entry-iterator.ensures.into_iter_gives ∙ c.indirects-entry-items.ensures in
    judged_found c.args.image.now rule.IndirectIndex (lit≤ tt) c.requires _ _ _
    (indirects_break c.args.image.now _ are _ c.requires c.symbol_count-count.ensures) _ c.loop-entry.invariant.2
    c.in-Some.entry _ c.in-Some.ensures.steps (c.names_no_symbol.ensures.0 c.if-names_no_symbol.true) c.at.result c.at.ensures.rule c.at.ensures.place

pub loop-entry-preserved : goal.loop-entry-preserved
loop-entry-preserved c = (
  tt,
  tt,
  search_next _ _ _ _ _ c.in-Some.entry c.in-Some.ensures.steps c.loop-entry.invariant.2 (λ here. both_ways c.names_no_symbol.result c.if-names_no_symbol.false (c.names_no_symbol.ensures.1 here)),
)

pub returns : goal.returns
returns c =
    let are = c.into_iter-entry-iterator.ensures.into_iter_gives ∙ c.indirects-entry-items.ensures in
    judged_ended c.args.image.now rule.IndirectIndex (lit≤ tt) c.requires _ _ _
    (indirects_break c.args.image.now _ are _ c.requires c.symbol_count-count.ensures) _ c.loop-entry.invariant.2
    c.in-None.ensures.steps.0
