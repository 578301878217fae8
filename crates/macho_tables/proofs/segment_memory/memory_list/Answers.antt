use Rattle.std.proofs.Common.{◌∙◌, length, map, sym, ap, inl, arith}
use Rattle.std.proofs.lemmas.Iterator.Consumers.{YieldsList-end}
use Rattle.std.proofs.lemmas.List.{length-map, map-id}
use Rattle.macho_fields.specs.Segment.{all_segments}
use Rattle.macho_image.specs.Segment.{segment_at}
use Rattle.macho_rules.proofs.Mapped.{at_places}
use Rattle.macho_strict.specs.Passed.{occupied}
use Rattle.macho_tables.specs.SegmentMemory.{memory_of}
use Rattle.macho_tables.proofs.Found.{segments_yield}
use Rattle.macho_tables.proofs.Roomy.{segments_few}
use Rattle.macho_tables.proofs.SegmentMemory.{view_memory, memory_same}
use Rattle.macho_tables.proofs.segment_memory.memory_list.Goals as goal

pub count-requires-clause-fits : goal.count-requires-clause-fits
count-requires-clause-fits c =
    let image = c.args.image.now in
    let few = segments_few image c.segments.ensures.opened c.segments.ensures.fits in
    let size = ap length c.segments.ensures.segments ∙ length-map (all_segments image) (segment_at image) in
    inl (omega (arith, few, size))

pub loop-segment-preserved : goal.loop-segment-preserved
loop-segment-preserved c =
    memory_same c.args.extent c.loop-segment.yielded c.in-Some.segment c.loop-segment.list.spans c.of-addresses.result c.of-addresses.ensures c.loop-segment.invariant
    (omega (arith, c.if-addresses-gt0.false))

pub returns : goal.returns
returns c =
    let image = c.args.image.now in
    let are = c.into_iter-segment-iterator.ensures.into_iter_gives ∙ c.segments-segment-items.ensures.segments in
    let (same, _) = YieldsList-end (segments_yield image are) c.loop-segment.yielded _ c.loop-segment.yielded_by c.next.result _ c.in-None.is c.next.ensures.steps in
    let all = sym (map-id c.loop-segment.yielded) ∙ (same ∙ are) in
    c.loop-segment.invariant ∙ ap occupied (ap (map (view_memory c.args.extent)) all ∙ at_places (memory_of c.args.extent) image (all_segments image))
