use Rattle.std.proofs.Common.{[], ◌∷◌, length, ap, ◌∙◌, arith, length-append}
use Rattle.std.proofs.lemmas.List.{length-map}
use Rattle.macho_image.specs.Segment.{segment_at}
use Rattle.macho_rules.specs.Mapped.{mapped_segments}
use Rattle.macho_rules.proofs.Mapped.{yielded_all}
use Rattle.macho_rules.proofs.segments.mapped_count.Goals as goal

pub loop-segment-preserved : goal.loop-segment-preserved
loop-segment-preserved c = omega (arith, c.loop-segment.invariant, length-append c.loop-segment.yielded (c.in-Some._segment ∷ []), c.saturating_add-count.ensures)

pub returns : goal.returns
returns c =
    let all = yielded_all c.args.image.now c.into_iter-segment-iterator.result (c.into_iter-segment-iterator.ensures.into_iter_gives ∙ c.mapped_segments-segment-items.ensures.segments) c.loop-segment.yielded _ _ c.next.result c.loop-segment.yielded_by c.next.ensures.steps c.in-None.is in
    let count = ap length all ∙ length-map (mapped_segments c.args.image.now) (segment_at c.args.image.now) in omega (arith, c.loop-segment.invariant, count)
