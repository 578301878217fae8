use Rattle.std.proofs.Common.{◌∙◌, sym, ap}
use Rattle.std.proofs.lemmas.Bool.{both_ways}
use Rattle.macho_rules.proofs.Searches.{search_all, search_next}
use Rattle.macho_rules.proofs.SectionItems.{sections_rising}
use Rattle.macho_symbols.specs.Indirects.{indirect_count}
use Rattle.macho_symbols.proofs.IndirectWalks.{of_image, first_bad, none_bad}
use Rattle.macho_symbols.proofs.indirects.indirect_range.Goals as goal

pub loop-section-init : goal.loop-section-init
loop-section-init c =
    let are = c.into_iter-section-iterator.ensures.into_iter_gives ∙ c.sections-section-items.ensures.sections in
    (tt, tt, search_all _ _ _ (sections_rising c.args.image.now _ c.sections-section-items.ensures.opened are))

pub returns-then-is_bad : goal.returns-then-is_bad
returns-then-is_bad c =
    let are = c.into_iter-section-iterator.ensures.into_iter_gives ∙ c.sections-section-items.ensures.sections in
    let same = of_image c.args.image.now _ are _ _ c.in-Some.section c.in-Some.ensures.steps c.loop-section.invariant.2 in
    let bad = (c.is_bad.ensures (c.indirect_count-entries.ensures ∙ ap indirect_count (sym same))).0 c.if-is_bad.true in
    first_bad c.args.image.now _ are _ _ c.in-Some.section c.in-Some.ensures.steps c.loop-section.invariant.2 bad c.place.result c.place.ensures

pub loop-section-preserved : goal.loop-section-preserved
loop-section-preserved c =
    let are = c.into_iter-section-iterator.ensures.into_iter_gives ∙ c.sections-section-items.ensures.sections in
    let same = of_image c.args.image.now _ are _ _ c.in-Some.section c.in-Some.ensures.steps c.loop-section.invariant.2 in
    let says = c.is_bad.ensures (c.indirect_count-entries.ensures ∙ ap indirect_count (sym same)) in
    (tt, tt, search_next _ _ _ _ _ c.in-Some.section c.in-Some.ensures.steps c.loop-section.invariant.2 (λ bad. both_ways c.is_bad.result c.if-is_bad.false (says.1 bad)))

pub returns : goal.returns
returns c =
    let are = c.into_iter-section-iterator.ensures.into_iter_gives ∙ c.sections-section-items.ensures.sections in
    none_bad c.args.image.now _ are _ c.in-None.ensures.steps.0 c.loop-section.invariant.2
