use Rattle.std.proofs.Common.{◌∙◌, refl, arith}
use Rattle.macho_rules.proofs.Mapped.{span_is}
use Rattle.macho_symbols.proofs.FewSpans.{noted_none, noted_more, many_noted, all_noted}
use Rattle.macho_symbols.proofs.few_spans.FewSpans.of.Goals as goal

pub loop-segment-init : goal.loop-segment-init
loop-segment-init c = (tt, tt, noted_none _ _ refl)

pub returns-then-count-eq-FEW_SEGMENTS : goal.returns-then-count-eq-FEW_SEGMENTS
returns-then-count-eq-FEW_SEGMENTS c =
    let are = c.into_iter-segment-iterator.ensures.into_iter_gives ∙ c.mapped_segments-segment-items.ensures.segments in
    many_noted c.args.image.now _ _ are _ c.loop-segment.count c.loop-segment.invariant.2 c.in-Some.segment _ c.in-Some.ensures.steps c.if-count-eq-FEW_SEGMENTS.true

pub returns : goal.returns
returns c =
    let are = c.into_iter-segment-iterator.ensures.into_iter_gives ∙ c.mapped_segments-segment-items.ensures.segments in
    all_noted c.args.image.now _ _ are _ c.loop-segment.count c.loop-segment.invariant.2 c.in-None.ensures.steps.0

pub loop-segment-preserved : goal.loop-segment-preserved
loop-segment-preserved c =
    let few = c.loop-segment.invariant.2.few in (
      tt,
      tt,
      noted_more _ _ _ c.in-Some.segment c.in-Some.ensures.steps _ c.loop-segment.count c.loop-segment.invariant.2 c.memory.result
          (span_is c.memory.result _ _ c.memory.ensures.start c.memory.ensures.len) (omega (arith, few, c.if-count-eq-FEW_SEGMENTS.false)),
    )
