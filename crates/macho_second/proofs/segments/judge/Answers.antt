use Rattle.std.proofs.Common.{◌∙◌, refl}
use Rattle.std.proofs.lemmas.Bool.{both_ways}
use Rattle.std.proofs.lemmas.Fn.{says_at}
use Rattle.macho_rules.proofs.Judged.{judged_found, judged_ended}
use Rattle.macho_rules.proofs.Searches.{search_next}
use Rattle.macho_rules.proofs.SegmentItems.{segments_search, segment_image, segment_rule_breaks}
use Rattle.macho_second.proofs.segments.judge.Goals as goal

pub loop-segment-init : goal.loop-segment-init
loop-segment-init g c =
    let are = c.into_iter-segment-iterator.ensures.into_iter_gives ∙ c.segments-segment-items.ensures.segments in
    segments_search c.args.image.now _ are _ c.segments-segment-items.ensures.opened

pub returns-then-is_broken : goal.returns-then-is_broken
returns-then-is_broken g c =
    let are = c.into_iter-segment-iterator.ensures.into_iter_gives ∙ c.segments-segment-items.ensures.segments in
    let same = segment_image c.args.image.now _ are _ _ _ c.in-Some.segment c.in-Some.ensures.steps c.loop-segment.invariant in
    judged_found c.args.image.now c.args.rule c.requires.late c.requires.kept _ _ _ (segment_rule_breaks c.args.image.now _ are c.args.rule c.requires.segments) _ c.loop-segment.invariant
    c.in-Some.segment _ c.in-Some.ensures.steps ((c.requires.decides c.in-Some.segment same c.is_broken.result (says_at g.F.Fn c.is_broken.ensures refl)).0 c.if-is_broken.true) c.at.result
    c.at.ensures.rule (c.at.ensures.place ∙ c.place.ensures)

pub loop-segment-preserved : goal.loop-segment-preserved
loop-segment-preserved g c =
    let are = c.into_iter-segment-iterator.ensures.into_iter_gives ∙ c.segments-segment-items.ensures.segments in
    let same = segment_image c.args.image.now _ are _ _ _ c.in-Some.segment c.in-Some.ensures.steps c.loop-segment.invariant in
    search_next _ _ _ _ _ c.in-Some.segment c.in-Some.ensures.steps c.loop-segment.invariant
    (λ here. both_ways c.is_broken.result c.if-is_broken.false ((c.requires.decides c.in-Some.segment same c.is_broken.result (says_at g.F.Fn c.is_broken.ensures refl)).1 here))

pub returns : goal.returns
returns g c =
    let are = c.into_iter-segment-iterator.ensures.into_iter_gives ∙ c.segments-segment-items.ensures.segments in
    judged_ended c.args.image.now c.args.rule c.requires.late c.requires.kept _ _ _
    (segment_rule_breaks c.args.image.now _ are c.args.rule c.requires.segments) _ c.loop-segment.invariant c.in-None.ensures.steps.0
