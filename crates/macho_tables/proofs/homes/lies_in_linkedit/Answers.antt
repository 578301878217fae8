use Rattle.std.proofs.Common.{sym, ap, ◌∙◌, inl, inr}
use Rattle.std.proofs.lemmas.Bool.{cases_Bool, false≢true, true≢false, both_ways}
use Rattle.macho_image.specs.Segment.{SegmentView}
use Rattle.macho_rules.proofs.Searches.{first_among, search_next, none_left}
use Rattle.macho_rules.proofs.SegmentItems.{segments_search, segment_of, segment_among, some_segment, of_segment}
use Rattle.macho_tables.specs.Homes.{IsAstray}
use Rattle.macho_tables.specs.Segments.{IsLinkedit}
use Rattle.macho_tables.proofs.HeldSegments.{view_inside}
use Rattle.macho_tables.proofs.homes.lies_in_linkedit.Goals as goal

pub loop-segment-init : goal.loop-segment-init
loop-segment-init c =
    let are = c.into_iter-segment-iterator.ensures.into_iter_gives ∙ c.segments-segment-items.ensures.segments in
    record {
      astray = segments_search c.args.image.now _ are _ c.segments-segment-items.ensures.opened;
      found = λ is. absurd (false≢true is);
      missing = λ _. segments_search c.args.image.now _ are _ c.segments-segment-items.ensures.opened;
    }

pub is_home-requires : goal.is_home-requires
is_home-requires c =
    let image = c.args.image.now in
    let are = c.into_iter-segment-iterator.ensures.into_iter_gives ∙ c.segments-segment-items.ensures.segments in
    let has = first_among _ _ _ _ _ c.in-Some.segment c.in-Some.ensures.steps c.loop-segment.invariant.astray in
    view_inside image c.segments-segment-items.ensures.opened c.in-Some.segment (segment_among image _ are c.in-Some.segment has) (sym (ap (λ (t : SegmentView). t.image) (segment_of image _ are c.in-Some.segment has)))

pub returns-then-not-is_home : goal.returns-then-not-is_home
returns-then-not-is_home c =
    let are = c.into_iter-segment-iterator.ensures.into_iter_gives ∙ c.segments-segment-items.ensures.segments in
    let has = first_among _ _ _ _ _ c.in-Some.segment c.in-Some.ensures.steps c.loop-segment.invariant.astray in
    let astray : IsAstray c.args.table c.in-Some.segment.image c.in-Some.segment.place = (c.is_linkedit.ensures.0 c.if-is_linkedit.true, λ home. both_ways c.is_home.result c.if-not-is_home.true (c.is_home.ensures.1 home)) in
    (λ wrong. absurd (false≢true wrong), λ (_, none). absurd (none (some_segment c.args.image.now _ are (IsAstray c.args.table) c.in-Some.segment has astray)))

pub loop-segment-preserved-then-is_linkedit : goal.loop-segment-preserved-then-is_linkedit
loop-segment-preserved-then-is_linkedit c =
    let are = c.into_iter-segment-iterator.ensures.into_iter_gives ∙ c.segments-segment-items.ensures.segments in
    let has = first_among _ _ _ _ _ c.in-Some.segment c.in-Some.ensures.steps c.loop-segment.invariant.astray in
    record {
      astray = search_next _ _ _ _ _ c.in-Some.segment c.in-Some.ensures.steps c.loop-segment.invariant.astray (λ astray. astray.1 (c.is_home.ensures.0 c.if-not-is_home.false));
      found = λ _. some_segment c.args.image.now _ are IsLinkedit c.in-Some.segment has (c.is_linkedit.ensures.0 c.if-is_linkedit.true);
      missing = λ wrong. absurd (true≢false wrong);
    }

pub loop-segment-preserved : goal.loop-segment-preserved
loop-segment-preserved c = record {
  astray = search_next _ _ _ _ _ c.in-Some.segment c.in-Some.ensures.steps c.loop-segment.invariant.astray (λ astray. both_ways c.is_linkedit.result c.if-is_linkedit.false (c.is_linkedit.ensures.1 astray.0));
  found = c.loop-segment.invariant.found;
  missing = λ none. search_next _ _ _ _ _ c.in-Some.segment c.in-Some.ensures.steps (c.loop-segment.invariant.missing none) (λ linkedit. both_ways c.is_linkedit.result c.if-is_linkedit.false (c.is_linkedit.ensures.1 linkedit));
}

pub returns : goal.returns
returns c =
    let are = c.into_iter-segment-iterator.ensures.into_iter_gives ∙ c.segments-segment-items.ensures.segments in (
      λ is. (
        c.loop-segment.invariant.found is,
        λ any. let (s, has, here) = of_segment c.args.image.now _ are (IsAstray c.args.table) any in none_left _ _ _ _ c.in-None.ensures.steps.0 c.loop-segment.invariant.astray s has here,
      ),
      λ (any, _). elim (cases_Bool c.loop-segment.found) [
        | inl is ↦ is
        | inr none ↦ let (s, has, here) = of_segment c.args.image.now _ are IsLinkedit any in absurd (none_left _ _ _ _ c.in-None.ensures.steps.0 (c.loop-segment.invariant.missing none) s has here)
      ],
    )
