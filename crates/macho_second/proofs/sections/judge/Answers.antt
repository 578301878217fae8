use Rattle.std.proofs.Common.{◌∙◌, refl}
use Rattle.std.proofs.lemmas.Bool.{both_ways}
use Rattle.std.proofs.lemmas.Fn.{says_at}
use Rattle.macho_rules.proofs.Judged.{judged_found, judged_ended}
use Rattle.macho_rules.proofs.Searches.{search_all, search_next}
use Rattle.macho_rules.proofs.SectionItems.{sections_rising, section_rule_breaks}
use Rattle.macho_second.proofs.sections.judge.Goals as goal

pub loop-section-init : goal.loop-section-init
loop-section-init g c =
    let are = c.into_iter-section-iterator.ensures.into_iter_gives ∙ c.sections-section-items.ensures.sections in
    search_all _ _ _ (sections_rising c.args.image.now _ c.sections-section-items.ensures.opened are)

pub returns-then-is_broken : goal.returns-then-is_broken
returns-then-is_broken g c =
    let are = c.into_iter-section-iterator.ensures.into_iter_gives ∙ c.sections-section-items.ensures.sections in
    judged_found c.args.image.now c.args.rule c.requires.late c.requires.kept _ _ _
    (section_rule_breaks c.args.image.now _ c.sections-section-items.ensures.opened are c.args.rule c.requires.sections) _ c.loop-section.invariant c.in-Some.section _ c.in-Some.ensures.steps
    ((c.requires.decides c.in-Some.section c.is_broken.result (says_at g.F.Fn c.is_broken.ensures refl)).0 c.if-is_broken.true) c.at.result c.at.ensures.rule (c.at.ensures.place ∙ c.place.ensures)

pub loop-section-preserved : goal.loop-section-preserved
loop-section-preserved g c =
    search_next _ _ _ _ _ c.in-Some.section c.in-Some.ensures.steps c.loop-section.invariant
    (λ here. both_ways c.is_broken.result c.if-is_broken.false ((c.requires.decides c.in-Some.section c.is_broken.result (says_at g.F.Fn c.is_broken.ensures refl)).1 here))

pub returns : goal.returns
returns g c =
    let are = c.into_iter-section-iterator.ensures.into_iter_gives ∙ c.sections-section-items.ensures.sections in
    judged_ended c.args.image.now c.args.rule c.requires.late c.requires.kept _ _ _
    (section_rule_breaks c.args.image.now _ c.sections-section-items.ensures.opened are c.args.rule c.requires.sections) _ c.loop-section.invariant
    c.in-None.ensures.steps.0
