use Rattle.std.proofs.Common.{◌≡◌, [], ◌∷◌, map, length, vec_len, rules, sym, ap, ◌∙◌, arith}
use Rattle.std.proofs.lemmas.List.{map-append}
use Rattle.macho_image.specs.Segment.{SegmentView}
use Rattle.macho_rules.specs.Mapped.{mapped_segments, memory_at, numbered_memory}
use Rattle.macho_rules.proofs.Mapped.{span_is, mapped_all, yielded_image, yielded_mapped, yielded_all, mapped_some}
use Rattle.macho_rules.proofs.MappingItems.{numbered_more, pairs_counted, on_err, no_room}
use Rattle.macho_rules.proofs.mapping.numbered_spans.Goals as goal

pub returns-in_err-pairs-clause-memory : goal.returns-in_err-pairs-clause-memory
returns-in_err-pairs-clause-memory c =
    on_err c.from_residual.result (mapped_some c.args.image.now (omega (arith, c.requires, no_room c.with_capacity.result c.with_capacity.ensures.succeeds c.in_err-pairs.was)))

pub returns-in_err-push-clause-memory : goal.returns-in_err-push-clause-memory
returns-in_err-push-clause-memory c =
    on_err c.from_residual-in_err-push.result
    (yielded_mapped c.args.image.now c.into_iter-segment-iterator.result (c.into_iter-segment-iterator.ensures.into_iter_gives ∙ c.mapped_segments-segment-items.ensures.segments) c.loop-segment.yielded _ _ c.next.result c.loop-segment.yielded_by c.next.ensures.steps c.in-Some.segment c.in-Some.is)

pub loop-segment-preserved : goal.loop-segment-preserved
loop-segment-preserved c =
    let image = c.args.image.now in
    let place = c.in-Some.segment.place in
    let seen = map (λ (s : SegmentView). s.place) c.loop-segment.yielded in
    let pairs = c.loop-segment.pairs.items in
    let same = yielded_image image c.into_iter-segment-iterator.result (c.into_iter-segment-iterator.ensures.into_iter_gives ∙ c.mapped_segments-segment-items.ensures.segments) c.loop-segment.yielded _ _ c.next.result c.loop-segment.yielded_by c.next.ensures.steps c.in-Some.segment c.in-Some.is in
    let is = span_is c.memory.result _ _ c.memory.ensures.start c.memory.ensures.len ∙ ap (λ bytes. memory_at bytes place) same in
    let count : vec_len c.loop-segment.pairs ≡ length pairs = search rules in
    let index : c.len-index.result ≡ length seen = c.len-index.ensures ∙ (count ∙ pairs_counted image seen pairs c.loop-segment.invariant) in
    c.in_ok-push.ensures.items ∙ (numbered_more image seen place pairs c.loop-segment.invariant c.memory.result is c.len-index.result index
    ∙ ap (numbered_memory image 0) (sym (map-append (λ (s : SegmentView). s.place) c.loop-segment.yielded (c.in-Some.segment ∷ []))))

pub returns-clause-pairs : goal.returns-clause-pairs
returns-clause-pairs c =
    let image = c.args.image.now in
    let all = yielded_all image c.into_iter-segment-iterator.result (c.into_iter-segment-iterator.ensures.into_iter_gives ∙ c.mapped_segments-segment-items.ensures.segments) c.loop-segment.yielded _ _ c.next.result c.loop-segment.yielded_by c.next.ensures.steps c.in-None.is in
    c.loop-segment.invariant ∙ ap (numbered_memory image 0) (ap (map (λ (s : SegmentView). s.place)) all ∙ mapped_all image (mapped_segments image))
