use Rattle.std.proofs.Common.{◌≡◌, refl, sym, ap, ◌∙◌}
use Rattle.std.proofs.lemmas.Bool.{false≢true, both_ways}
use Rattle.macho_fields.specs.Image.{commands_end}
use Rattle.macho_rules.proofs.Searches.{first_among, search_next, none_left}
use Rattle.macho_rules.proofs.SegmentItems.{segments_search, segment_image, some_segment, of_segment}
use Rattle.macho_strict.specs.Rules.{HoldsHeaders}
use Rattle.macho_strict.proofs.segments.some_has_headers.Goals as goal

pub loop-segment-init : goal.loop-segment-init
loop-segment-init c =
    let are = c.into_iter-segment-iterator.ensures.into_iter_gives ∙ c.segments-segment-items.ensures.segments in
    segments_search c.args.image.now _ are _ c.segments-segment-items.ensures.opened

pub returns-then-has_headers : goal.returns-then-has_headers
returns-then-has_headers c =
    let image = c.args.image.now in
    let are = c.into_iter-segment-iterator.ensures.into_iter_gives ∙ c.segments-segment-items.ensures.segments in
    let same = segment_image image _ are _ _ _ c.in-Some.segment c.in-Some.ensures.steps c.loop-segment.invariant in
    let end : c.commands_end-commands_end.result ≡ commands_end c.in-Some.segment.image = c.commands_end-commands_end.ensures.end ∙ ap commands_end (sym same) in
    let here = some_segment image _ are HoldsHeaders c.in-Some.segment (first_among _ _ _ _ _ c.in-Some.segment c.in-Some.ensures.steps c.loop-segment.invariant) ((c.has_headers.ensures end).0 c.if-has_headers.true) in
    (λ _. here, λ _. refl)

pub loop-segment-preserved : goal.loop-segment-preserved
loop-segment-preserved c =
    let are = c.into_iter-segment-iterator.ensures.into_iter_gives ∙ c.segments-segment-items.ensures.segments in
    let same = segment_image c.args.image.now _ are _ _ _ c.in-Some.segment c.in-Some.ensures.steps c.loop-segment.invariant in
    let end : c.commands_end-commands_end.result ≡ commands_end c.in-Some.segment.image = c.commands_end-commands_end.ensures.end ∙ ap commands_end (sym same) in
    search_next _ _ _ _ _ c.in-Some.segment c.in-Some.ensures.steps c.loop-segment.invariant (λ has. both_ways c.has_headers.result c.if-has_headers.false ((c.has_headers.ensures end).1 has))

pub returns : goal.returns
returns c = (
  λ wrong. absurd (false≢true wrong),
  λ any.
      let (s, has, here) = of_segment c.args.image.now _ (c.into_iter-segment-iterator.ensures.into_iter_gives ∙ c.segments-segment-items.ensures.segments) HoldsHeaders any in
      absurd (none_left _ _ _ _ c.in-None.ensures.steps.0 c.loop-segment.invariant s has here),
)
