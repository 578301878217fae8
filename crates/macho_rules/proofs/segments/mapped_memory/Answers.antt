use Rattle.std.proofs.Common.{◌≡◌, ℕ, ◌+◌, ◌*◌, ◌≤◌, ◌<◌, List, length, length-append, ◌++◌, [], ◌∷◌, map, max, ap, ◌∙◌, inl, inr, arith}
use Rattle.std.proofs.lemmas.Bool.{cases_lt}
use Rattle.macho_spans.specs.declared.span.Span.{Span}
use Rattle.macho_image.specs.Segment.{SegmentView}
use Rattle.macho_rules.specs.Mapped.{mapped_segments, memory_at}
use Rattle.macho_rules.proofs.Mapped.{span_is, pushed, at_places, yielded_all}
use Rattle.macho_rules.proofs.segments.mapped_memory.Goals as goal

-- the room that there is with a span more
one_more : (count : ℕ) (spans next : List Span) (span : Span) (before after : ℕ) → before ≤ max count (2 * length spans + 4) → next ≡ spans ++ span ∷ []
    → (length spans < before → after ≡ before) → (before ≤ length spans → after ≤ length spans + max (length spans) 4) → after ≤ max count (2 * length next + 4)
one_more count spans next span before after room more same grown =
    let one : length next ≡ length spans + 1 = ap length more ∙ length-append spans (span ∷ []) in
    elim (cases_lt (length spans) before) [
      | inl less ↦ let is = same less in omega (arith, one, is, room)
      | inr full ↦ let few = grown full in omega (arith, one, few)
    ]

pub loop-segment-preserved : goal.loop-segment-preserved
loop-segment-preserved c = record {
  spans = pushed (λ (s : SegmentView). memory_at s.image s.place) c.loop-segment.yielded c.in-Some.segment c.loop-segment.list.spans c.push.new.self.spans c.memory.result c.in_ok-push.ensures.ok
      c.loop-segment.invariant.spans (span_is c.memory.result _ _ c.memory.ensures.start c.memory.ensures.len);
  room = one_more c.args.count c.loop-segment.list.spans c.push.new.self.spans c.memory.result c.loop-segment.list.capacity c.push.new.self.capacity c.loop-segment.invariant.room
      c.in_ok-push.ensures.ok c.push.ensures.room c.push.ensures.more;
}

pub returns-clause-memory : goal.returns-clause-memory
returns-clause-memory c =
    let image = c.args.image.now in
    let all = yielded_all image c.into_iter-segment-iterator.result (c.into_iter-segment-iterator.ensures.into_iter_gives ∙ c.mapped_segments-segment-items.ensures.segments) c.loop-segment.yielded _ _ c.next.result c.loop-segment.yielded_by c.next.ensures.steps c.in-None.is in
    c.loop-segment.invariant.spans ∙ (ap (map (λ (s : SegmentView). memory_at s.image s.place)) all ∙ at_places memory_at image (mapped_segments image))
