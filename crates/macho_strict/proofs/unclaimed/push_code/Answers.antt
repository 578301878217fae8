use Rattle.std.proofs.Common.{◌≡◌, ◌<◌, ◌++◌, ◌∷◌, [], ℕ, List, map, Contains, true, false, refl, sym, ap, ◌∙◌, subst, append_assoc, arith}
use Rattle.std.proofs.lemmas.List.{append-nil, map-append}
use Rattle.std.proofs.lemmas.List.Elements.{Contains-append_right}
use Rattle.macho_fields.proofs.Lists.{contains_first}
use Rattle.macho_image.specs.Segment.{SegmentView, segment_at}
use Rattle.macho_spans.specs.declared.span.Span.{Span}
use Rattle.macho_rules.proofs.Mapped.{span_is}
use Rattle.macho_rules.proofs.SegmentItems.{AreSegments, segment_of}
use Rattle.macho_rules.proofs.Surveys.{walked_on, walked_all}
use Rattle.macho_strict.specs.Passed.{occupied}
use Rattle.macho_strict.specs.Rules.{all_segments}
use Rattle.macho_strict.specs.Unclaimed.{is_code, code_among}
use Rattle.macho_strict.proofs.Unclaims.{part_of, code_more, code_empty, code_same}
use Rattle.macho_strict.proofs.unclaimed.push_code.Goals as goal

abbrev place_of : SegmentView → ℕ
place_of segment = segment.place

module _ (image : List ℕ) (all seen rest : List SegmentView) (s : SegmentView) (are : AreSegments image all) (reached : all ≡ seen ++ s ∷ rest) where
  of_image : s.image ≡ image
  of_image = ap (λ (v : SegmentView). v.image) (segment_of image all are s (subst (λ ys. Contains ys s) (sym reached) (Contains-append_right seen (s ∷ rest) s (contains_first s rest))))

  places_more : map place_of (seen ++ s ∷ []) ≡ map place_of seen ++ s.place ∷ []
  places_more = map-append place_of seen (s ∷ [])

  -- its bytes are added, if it may be executed and has some
  one_more : (spans old new : List Span) (span : Span) → is_code s.image s.place ≡ true → 0 < span.len → old ≡ spans ++ occupied (code_among image (map place_of seen)) → new ≡ old ++ span ∷ [] → span ≡ part_of s.image s.place
      → new ≡ spans ++ occupied (code_among image (map place_of (seen ++ s ∷ [])))
  one_more spans old new span code filled was pushed is =
      let here = subst (λ (bytes : List ℕ). is_code bytes s.place ≡ true) of_image code in
      let part : span ≡ part_of image s.place = is ∙ ap (λ bytes. part_of bytes s.place) of_image in
      let some : 0 < (part_of image s.place).len = subst (λ (x : Span). 0 < x.len) part filled in
      pushed ∙ (ap (λ (xs : List Span). xs ++ span ∷ []) was ∙ (append_assoc spans (occupied (code_among image (map place_of seen))) (span ∷ [])
      ∙ ap (λ (xs : List Span). spans ++ xs) (ap (λ (x : Span). occupied (code_among image (map place_of seen)) ++ x ∷ []) part
      ∙ (sym (code_more image (map place_of seen) s.place here some) ∙ ap (λ these. occupied (code_among image these)) (sym places_more)))))

  -- and otherwise not
  none_more : (spans old : List Span) → occupied (code_among image (map place_of seen ++ s.place ∷ [])) ≡ occupied (code_among image (map place_of seen)) → old ≡ spans ++ occupied (code_among image (map place_of seen))
      → old ≡ spans ++ occupied (code_among image (map place_of (seen ++ s ∷ [])))
  none_more spans old same was = was ∙ ap (λ (xs : List Span). spans ++ xs) (sym same ∙ ap (λ these. occupied (code_among image these)) (sym places_more))

  other_more : (spans old : List Span) → is_code s.image s.place ≡ false → old ≡ spans ++ occupied (code_among image (map place_of seen)) → old ≡ spans ++ occupied (code_among image (map place_of (seen ++ s ∷ [])))
  other_more spans old other = none_more spans old (code_same image (map place_of seen) s.place (subst (λ (bytes : List ℕ). is_code bytes s.place ≡ false) of_image other))

  empty_more : (spans old : List Span) (span : Span) → is_code s.image s.place ≡ true → span.len ≡ 0 → span ≡ part_of s.image s.place → old ≡ spans ++ occupied (code_among image (map place_of seen))
      → old ≡ spans ++ occupied (code_among image (map place_of (seen ++ s ∷ [])))
  empty_more spans old span code empty is =
      let none : (part_of image s.place).len ≡ 0 = subst (λ (x : Span). x.len ≡ 0) (is ∙ ap (λ bytes. part_of bytes s.place) of_image) empty in
      none_more spans old (code_empty image (map place_of seen) s.place (subst (λ (bytes : List ℕ). is_code bytes s.place ≡ true) of_image code) none)

places_back : (image places : List ℕ) → map place_of (map (segment_at image) places) ≡ places
places_back image [] = refl
places_back image (p ∷ ps) = ap (λ rest. p ∷ rest) (places_back image ps)

pub loop-segment-init : goal.loop-segment-init
loop-segment-init c = ([], refl, sym (append-nil c.args.list.now.spans))

pub loop-segment-preserved-in-Continue-1 : goal.loop-segment-preserved-in-Continue-1
loop-segment-preserved-in-Continue-1 c =
    let (seen, reached, was) = c.loop-segment.invariant in
    let s = c.in-Some.segment in
    let all = c.into_iter-segment-iterator.result in
    let are = c.into_iter-segment-iterator.ensures.into_iter_gives ∙ c.segments-segment-items.ensures.segments in
    let here : all ≡ seen ++ s ∷ c.next.new.self = reached ∙ ap (λ (ys : List SegmentView). seen ++ ys) c.in-Some.ensures.steps in (
      seen ++ s ∷ [],
      walked_on all seen _ s c.next.new.self reached c.in-Some.ensures.steps,
      one_more c.args.image.now all seen c.next.new.self s are here c.args.list.now.spans c.loop-segment.list.spans c.push.new.self.spans c.file_part-part.result (sym c.is_code.ensures ∙ c.if-is_code.true) (omega (arith, c.if-part-gt0.true)) was
          c.in_ok-push.ensures.ok (span_is c.file_part-part.result _ _ c.file_part-part.ensures.start c.file_part-part.ensures.len),
    )

pub loop-segment-preserved-else-part-gt0 : goal.loop-segment-preserved-else-part-gt0
loop-segment-preserved-else-part-gt0 c =
    let (seen, reached, was) = c.loop-segment.invariant in
    let s = c.in-Some.segment in
    let all = c.into_iter-segment-iterator.result in
    let are = c.into_iter-segment-iterator.ensures.into_iter_gives ∙ c.segments-segment-items.ensures.segments in
    let here : all ≡ seen ++ s ∷ c.next.new.self = reached ∙ ap (λ (ys : List SegmentView). seen ++ ys) c.in-Some.ensures.steps in (
      seen ++ s ∷ [],
      walked_on all seen _ s c.next.new.self reached c.in-Some.ensures.steps,
      empty_more c.args.image.now all seen c.next.new.self s are here c.args.list.now.spans c.loop-segment.list.spans c.file_part-part.result (sym c.is_code.ensures ∙ c.if-is_code.true) (omega (arith, c.if-part-gt0.false))
          (span_is c.file_part-part.result _ _ c.file_part-part.ensures.start c.file_part-part.ensures.len) was,
    )

pub loop-segment-preserved : goal.loop-segment-preserved
loop-segment-preserved c =
    let (seen, reached, was) = c.loop-segment.invariant in
    let s = c.in-Some.segment in
    let all = c.into_iter-segment-iterator.result in
    let are = c.into_iter-segment-iterator.ensures.into_iter_gives ∙ c.segments-segment-items.ensures.segments in
    let here : all ≡ seen ++ s ∷ c.next.new.self = reached ∙ ap (λ (ys : List SegmentView). seen ++ ys) c.in-Some.ensures.steps in (
      seen ++ s ∷ [],
      walked_on all seen _ s c.next.new.self reached c.in-Some.ensures.steps,
      other_more c.args.image.now all seen c.next.new.self s are here c.args.list.now.spans c.loop-segment.list.spans (sym c.is_code.ensures ∙ c.if-is_code.false) was,
    )

pub returns : goal.returns
returns c =
    let (seen, reached, was) = c.loop-segment.invariant in
    let image = c.args.image.now in
    let are = c.into_iter-segment-iterator.ensures.into_iter_gives ∙ c.segments-segment-items.ensures.segments in
    let all = sym (walked_all _ seen _ reached c.in-None.ensures.steps.0) ∙ are in
    was ∙ ap (λ (xs : List Span). c.args.list.now.spans ++ xs) (ap (λ these. occupied (code_among image these)) (ap (map place_of) all ∙ places_back image (all_segments image)))
