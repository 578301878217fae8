use Rattle.std.proofs.Common.{◌≡◌, ◌∙◌, ◌++◌, ◌≤◌, List, [], ◌∷◌, Some, true, refl, sym, ap, subst}
use Rattle.std.proofs.lemmas.Bool.{false≢true}
use Rattle.macho_fields.specs.Segment.{all_segments}
use Rattle.macho_image.specs.Segment.{SegmentView, segment_at}
use Rattle.macho_rules.proofs.Searches.{Rising}
use Rattle.macho_rules.proofs.Surveys.{walked, walked_on, walked_all, ordered_before}
use Rattle.macho_tables.specs.Segments.{is_writable}
use Rattle.macho_readers.proofs.Found.{segments_rising}
use Rattle.macho_readers.proofs.Lasts.{IsLastIn, last_none, last_more, last_kept, last_mapped}
use Rattle.macho_readers.proofs.order.last_writable.Goals as goal

pub loop-segment-init : goal.loop-segment-init
loop-segment-init c = ([], refl, last_none (λ (v : SegmentView). v.place) (λ (v : SegmentView). is_writable v.image v.place ≡ true))

pub loop-segment-preserved : goal.loop-segment-preserved
loop-segment-preserved c =
    let (seen, reached, last) = c.loop-segment.invariant in
    let x = c.in-Some.segment in
    (seen ++ x ∷ [], walked_on _ seen _ x _ reached c.in-Some.ensures.steps, last_kept (λ (v : SegmentView). v.place) (λ (v : SegmentView). is_writable v.image v.place ≡ true) seen x c.loop-segment.last last (λ wrong. false≢true (sym c.if-is_writable.false ∙ (c.is_writable.ensures ∙ wrong))))

pub loop-segment-preserved-then-is_writable : goal.loop-segment-preserved-then-is_writable
loop-segment-preserved-then-is_writable c =
    let are = c.into_iter-segment-iterator.ensures.into_iter_gives ∙ c.segments-segment-items.ensures.segments in
    let (seen, reached, last) = c.loop-segment.invariant in
    let x = c.in-Some.segment in
    let all = walked _ seen _ x _ reached c.in-Some.ensures.steps in
    let rise = ordered_before (λ (v w : SegmentView). v.place ≤ w.place) seen x _ (subst (Rising (λ (v : SegmentView). v.place)) all (segments_rising c.args.image.now c.segments-segment-items.ensures.opened are)) in
    (seen ++ x ∷ [], walked_on _ seen _ x _ reached c.in-Some.ensures.steps, subst (IsLastIn (λ (v : SegmentView). v.place) (λ (v : SegmentView). is_writable v.image v.place ≡ true) (seen ++ x ∷ [])) (ap Some (sym c.place.ensures)) (last_more (λ (v : SegmentView). v.place) (λ (v : SegmentView). is_writable v.image v.place ≡ true) seen x c.loop-segment.last last rise (sym c.is_writable.ensures ∙ c.if-is_writable.true)))

pub returns : goal.returns
returns c =
    let image = c.args.image.now in
    let are = c.into_iter-segment-iterator.ensures.into_iter_gives ∙ c.segments-segment-items.ensures.segments in
    let (seen, reached, last) = c.loop-segment.invariant in
    let all = walked_all _ seen _ reached c.in-None.ensures.steps.0 in
    last_mapped (λ (v : SegmentView). v.place) (λ (v : SegmentView). is_writable v.image v.place ≡ true) (segment_at image) (all_segments image) c.loop-segment.last (subst (λ (xs : List SegmentView). IsLastIn (λ (v : SegmentView). v.place) (λ (v : SegmentView). is_writable v.image v.place ≡ true) xs c.loop-segment.last) (sym all ∙ are) last)
