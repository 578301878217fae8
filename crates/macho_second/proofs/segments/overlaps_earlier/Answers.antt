use Rattle.std.proofs.Common.{◌≡◌, ◌↔◌, ℕ, List, Bool, IsTrue, refl, sym, ◌∙◌, subst, arith}
use Rattle.std.proofs.lemmas.Bool.{false≢true, both_ways}
use Rattle.macho_fields.specs.Image.{commands_of}
use Rattle.macho_fields.specs.Segment.{Supplies, OverlapsEarlier}
use Rattle.macho_rules.proofs.Searches.{first_among, search_next, not_before, none_left}
use Rattle.macho_rules.proofs.SegmentItems.{segments_search, segment_image, some_segment, of_segment, SharesBefore}
use Rattle.macho_second.proofs.segments.overlaps_earlier.Goals as goal

-- what is so of the bytes of the image is so of the bytes of the segment, which are the same
of_image : {bytes image : List ℕ} {result : Bool} {place : ℕ} → bytes ≡ image → (IsTrue result ↔ OverlapsEarlier image (commands_of image) place)
    → (IsTrue result ↔ OverlapsEarlier bytes (commands_of bytes) place)
of_image {result = result} {place = place} is answered = subst (λ (bytes : List ℕ). IsTrue result ↔ OverlapsEarlier bytes (commands_of bytes) place) (sym is) answered

pub loop-earlier-init : goal.loop-earlier-init
loop-earlier-init c is =
    let are = c.into_iter-earlier-iterator.ensures.into_iter_gives ∙ c.segments-earlier-items.ensures.segments in
    segments_search c.args.image.now _ are _ c.segments-earlier-items.ensures.opened

pub returns-then-place : goal.returns-then-place
returns-then-place c is = of_image is (
  λ wrong. absurd (false≢true wrong),
  λ any.
      let (s, has, here) =
      of_segment c.args.image.now _ (c.into_iter-earlier-iterator.ensures.into_iter_gives ∙ c.segments-earlier-items.ensures.segments) (SharesBefore c.args.segment.now.place) any in
      let low = not_before _ _ _ _ _ c.in-Some.earlier c.in-Some.ensures.steps (c.loop-earlier.invariant is) s has here in
      absurd (omega (arith, low, here.0, c.if-place.true, c.place.ensures, c.place-in-loop-earlier.ensures)),
)

pub returns-then-shares : goal.returns-then-shares
returns-then-shares c is =
    let are = c.into_iter-earlier-iterator.ensures.into_iter_gives ∙ c.segments-earlier-items.ensures.segments in
    let same : c.args.segment.now.image ≡ c.in-Some.earlier.image = is ∙ sym (segment_image c.args.image.now _ are _ _ _ c.in-Some.earlier c.in-Some.ensures.steps (c.loop-earlier.invariant is)) in
    let (address, in_one, in_other) = c.shares.ensures.0 c.if-shares.true in
    let supplied : Supplies c.args.segment.now.image c.args.segment.now.place address = (omega arith, omega arith) in
    let here = some_segment c.args.image.now _ are (SharesBefore c.args.segment.now.place) c.in-Some.earlier
    (first_among _ _ _ _ _ c.in-Some.earlier c.in-Some.ensures.steps (c.loop-earlier.invariant is)) (
      omega (arith, c.if-place.false, c.place.ensures, c.place-in-loop-earlier.ensures),
      (address, (omega arith, omega arith), subst (λ bytes. Supplies bytes c.args.segment.now.place address) same supplied),
    ) in
    of_image is (λ _. here, λ _. refl)

pub loop-earlier-preserved : goal.loop-earlier-preserved
loop-earlier-preserved c is =
    let are = c.into_iter-earlier-iterator.ensures.into_iter_gives ∙ c.segments-earlier-items.ensures.segments in
    let same : c.args.segment.now.image ≡ c.in-Some.earlier.image = is ∙ sym (segment_image c.args.image.now _ are _ _ _ c.in-Some.earlier c.in-Some.ensures.steps (c.loop-earlier.invariant is)) in
    search_next _ _ _ _ _ c.in-Some.earlier c.in-Some.ensures.steps (c.loop-earlier.invariant is)
    (λ here.
    let (address, in_one, in_other) = here.1 in
    let supplied : Supplies c.args.segment.now.image c.args.segment.now.place address = subst (λ bytes. Supplies bytes c.args.segment.now.place address) (sym same) in_other in
    both_ways c.shares.result c.if-shares.false (c.shares.ensures.1 (address, (omega arith, omega arith), (omega arith, omega arith))))

pub returns : goal.returns
returns c is = of_image is (
  λ wrong. absurd (false≢true wrong),
  λ any.
      let (s, has, here) =
      of_segment c.args.image.now _ (c.into_iter-earlier-iterator.ensures.into_iter_gives ∙ c.segments-earlier-items.ensures.segments) (SharesBefore c.args.segment.now.place) any in
      absurd (none_left _ _ _ _ c.in-None.ensures.steps.0 (c.loop-earlier.invariant is) s has here),
)
