use Rattle.std.proofs.Common.{◌∙◌, [], ◌∷◌, ◌++◌, ℕ, List, sym, ap}
use Rattle.macho_image.specs.Segment.{SegmentView}
use Rattle.macho_fields.specs.Segment.{all_segments}
use Rattle.macho_alike.proofs.SegmentPlaces.{places_of, seam, no_more, places_back}
use Rattle.macho_alike.proofs.bounds.segment_places.Goals as goal

pub loop-segment-init : goal.loop-segment-init
loop-segment-init c = (tt, tt, ap (λ (xs : List ℕ). xs ++ places_of c.into_iter-segment-iterator.result) c.new-places.ensures.items)

pub loop-segment-preserved : goal.loop-segment-preserved
loop-segment-preserved c = (
  tt,
  tt,
  ap (λ (xs : List ℕ). xs ++ places_of c.next.new.self) (c.in_ok-push.ensures.items ∙ ap (λ (p : ℕ). c.loop-segment.places.items ++ p ∷ []) c.place.ensures)
      ∙ (seam c.loop-segment.places.items c.in-Some.segment.place (places_of c.next.new.self)
      ∙ (ap (λ (left : List SegmentView). c.loop-segment.places.items ++ places_of left) (sym c.in-Some.ensures.steps) ∙ c.loop-segment.invariant.2)),
)

pub returns : goal.returns
returns c =
    let are = c.into_iter-segment-iterator.ensures.into_iter_gives ∙ c.segments-segment-items.ensures.segments in
    sym (no_more c.loop-segment.places.items)
    ∙ (ap (λ (left : List SegmentView). c.loop-segment.places.items ++ places_of left) (sym c.in-None.ensures.steps.0)
    ∙ (c.loop-segment.invariant.2 ∙ (ap places_of are ∙ places_back c.args.image.now (all_segments c.args.image.now))))
