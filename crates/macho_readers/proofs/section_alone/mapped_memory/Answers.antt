use Rattle.std.proofs.Common.{map, ap, ◌∙◌}
use Rattle.macho_image.specs.Segment.{SegmentView}
use Rattle.macho_rules.specs.Mapped.{mapped_segments, memory_at}
use Rattle.macho_rules.proofs.Mapped.{span_is, pushed, at_places, yielded_all}
use Rattle.macho_readers.proofs.section_alone.mapped_memory.Goals as goal

pub loop-segment-preserved : goal.loop-segment-preserved
loop-segment-preserved c =
    pushed (λ (s : SegmentView). memory_at s.image s.place) c.loop-segment.yielded c.in-Some.segment c.loop-segment.list.spans c.push.new.self.spans c.memory.result c.in_ok-push.ensures.ok
    c.loop-segment.invariant (span_is c.memory.result _ _ c.memory.ensures.start c.memory.ensures.len)

pub returns : goal.returns
returns c =
    let image = c.args.image.now in
    let all = yielded_all image c.into_iter-segment-iterator.result (c.into_iter-segment-iterator.ensures.into_iter_gives ∙ c.mapped_segments-segment-items.ensures.segments) c.loop-segment.yielded _ _ c.next.result c.loop-segment.yielded_by c.next.ensures.steps c.in-None.is in
    c.loop-segment.invariant ∙ (ap (map (λ (s : SegmentView). memory_at s.image s.place)) all ∙ at_places memory_at image (mapped_segments image))
