use Rattle.std.proofs.Common.{Some, ap, sym, ◌∙◌}
use Rattle.macho_image.proofs.Entries.{base_among, base_seen, base_here}
use Rattle.macho_image.proofs.image.Image.base.Goals as goal

pub returns-then-shows_start : goal.returns-then-shows_start
returns-then-shows_start c =
    let here = ap base_among c.in-Some.ensures.steps ∙ base_here c.in-Some.segment c.next.new.self c.shows_start.result c.if-shows_start.true c.shows_start.ensures in
    let all = c.loop-segment.invariant.2 ∙ here in
    base_seen c.args.self.now c.segments-segment-items.result _ (ap Some c.vmaddr.ensures ∙ (sym all ∙ ap base_among c.into_iter-segment-iterator.ensures.into_iter_gives))
    c.segments-segment-items.ensures.segments

pub returns : goal.returns
returns c =
    let all = c.loop-segment.invariant.2 ∙ ap base_among c.in-None.ensures.steps.0 in
    base_seen c.args.self.now c.segments-segment-items.result _ (sym all ∙ ap base_among c.into_iter-segment-iterator.ensures.into_iter_gives) c.segments-segment-items.ensures.segments
