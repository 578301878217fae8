use Rattle.std.proofs.Common.{◌++◌, [], ◌∷◌, ◌<◌, ◌^◌, List, ℕ, length, sym, ◌∙◌, subst, arith}
use Rattle.macho_image.specs.Segment.{SegmentView, sections_among}
use Rattle.macho_rules.specs.Survey.{AreFirstSections, BreaksSegment, segment_notes, IsImageSurvey}
use Rattle.macho_rules.proofs.Surveys.{walked, walked_on, walked_all, segments_end_by, all_end_by, noted_more, sections_append, counted_more, survey_found}
use Rattle.macho_rules.proofs.survey.SegmentSurvey.of.Goals as goal

pub loop-segment-preserved : goal.loop-segment-preserved
loop-segment-preserved c =
    let image = c.args.image.now in
    let opened = c.segments-segment-items.ensures.opened in
    let are = c.into_iter-segment-iterator.ensures.into_iter_gives ∙ c.segments-segment-items.ensures.segments in
    let (seen, reached, segments, sections, mapped, count) = c.loop-segment.invariant in
    let s = c.in-Some.segment in
    let here = walked _ seen _ s _ reached c.in-Some.ensures.steps in (
      seen ++ s ∷ [],
      walked_on _ seen _ s _ reached c.in-Some.ensures.steps,
      noted_more (λ (t : SegmentView). t.place) BreaksSegment segment_notes seen s c.loop-segment.segments c.note.new.self (segments_end_by image opened _ are seen s _ here) c.note.ensures segments,
      subst (λ xs. AreFirstSections xs c.note_all.new.self) (sym (sections_append seen s)) (c.note_all.ensures (sections_among seen) (all_end_by image opened _ are seen s _ here) sections),
      c.note-in-loop-segment.ensures seen mapped,
      counted_more seen s c.loop-segment.section_count c.nsects.result c.saturating_add-section_count.result (omega (arith, c.saturating_add-section_count.ensures)) c.nsects.ensures.number count,
    )

pub invariant_of-result : goal.invariant_of-result
invariant_of-result c =
    let image = c.args.image.now in
    let opened = c.segments-segment-items.ensures.opened in
    let are = c.into_iter-segment-iterator.ensures.into_iter_gives ∙ c.segments-segment-items.ensures.segments in
    let (seen, reached, segments, sections, mapped, count) = c.loop-segment.invariant in
    let all = sym (walked_all _ seen _ reached c.in-None.ensures.steps.0) ∙ are in
    let short : length image < 2 ^ 64 = c.bytes-bytes.ensures.fits in
    subst (λ (bytes : List ℕ). IsImageSurvey bytes c.loop-segment.segments c.loop-segment.sections c.loop-segment.mapped c.loop-segment.section_count) (sym c.bytes-bytes.ensures.bytes)
    (survey_found image opened seen all c.loop-segment.segments c.loop-segment.sections c.loop-segment.mapped c.loop-segment.section_count short segments sections mapped count)
