use Rattle.std.proofs.Common.{◌≡◌, ◌+◌, ℕ, List, Some, sym, ap, ◌∙◌, subst, arith}
use Rattle.std.proofs.lemmas.Bool.{false≢true}
use Rattle.macho_fields.specs.Bytes.{bytes_of}
use Rattle.macho_fields.specs.Field.{field}
use Rattle.macho_fields.specs.Segment.{PassesImage}
use Rattle.macho_fields.specs.declared.bytes.Order.TheVariants.{Little}
use Rattle.macho_chains.specs.ChainPages.{AreLeastPlaces}
use Rattle.macho_chains.specs.ChainStarts.{seg_count, HasBadEntries}
use Rattle.macho_tables.specs.Items.{OfItem}
use Rattle.macho_chains.proofs.ChainStarts.{entries_passed}
use Rattle.macho_chains.proofs.PointerSurveys.{SlotOf, BindOf, its_rules, entries_good, file_part_inside, survey_more}
use Rattle.macho_tables.proofs.SegmentWalks.{passed_more, its_image, its_place, segment_listed}
use Rattle.macho_chains.proofs.chain_pages.survey.Goals as goal

pub returns-then-index-count : goal.returns-then-index-count
returns-then-index-count c =
    let image = c.args.image.now in
    let chains = bytes_of c.args.chains.bytes in
    let header = c.args.chains.header in
    let is : seg_count chains header ≡ Some c.in-Some.count = sym (c.in-Some.ensures ∙ ap (field Little 4 chains) c.from-starts_offset.ensures) in
    let good : ¬ HasBadEntries image chains header c.in-Some.count = λ bad. false≢true (sym c.if-has_bad_entries.false ∙ c.has_bad_entries.ensures.1 bad) in
    entries_good image c.args.chains.start chains header c.in-Some.count is good c.loop-segment.found
    (subst (λ (n : ℕ). AreLeastPlaces (OfItem n (SlotOf image c.args.chains.start chains header)) (OfItem n (BindOf image c.args.chains.start chains header)) c.loop-segment.found) c.if-index-count.true c.loop-segment.invariant.4)

pub segment_survey-other-requires-clause-image : goal.segment_survey-other-requires-clause-image
segment_survey-other-requires-clause-image c =
    let are = c.into_iter-segment-iterator.ensures.into_iter_gives ∙ c.segments-segment-items.ensures.segments in
    its_image c.args.image.now _ _ c.loop-segment.index are c.loop-segment.invariant.2 c.in-Some-segment.segment _ c.in-Some-segment.ensures.steps

pub segment_survey-other-requires-clause-file : goal.segment_survey-other-requires-clause-file
segment_survey-other-requires-clause-file c =
    let image = c.args.image.now in
    let segment = c.in-Some-segment.segment in
    let are = c.into_iter-segment-iterator.ensures.into_iter_gives ∙ c.segments-segment-items.ensures.segments in
    let same = its_image image _ _ c.loop-segment.index are c.loop-segment.invariant.2 segment _ c.in-Some-segment.ensures.steps in
    let listed = segment_listed image _ _ c.loop-segment.index are c.loop-segment.invariant.2 segment _ c.in-Some-segment.ensures.steps in
    subst (λ (bytes : List ℕ). ¬ PassesImage bytes segment.place) (sym same) (file_part_inside image c.requires.unbroken segment.place listed)

pub loop-segment-preserved : goal.loop-segment-preserved
loop-segment-preserved c =
    let image = c.args.image.now in
    let table = c.args.chains.start in
    let chains = bytes_of c.args.chains.bytes in
    let header = c.args.chains.header in
    let index = c.loop-segment.index in
    let segment = c.in-Some-segment.segment in
    let are = c.into_iter-segment-iterator.ensures.into_iter_gives ∙ c.segments-segment-items.ensures.segments in
    let passed = c.loop-segment.invariant.2 in
    let few = c.loop-segment.invariant.3 in
    let same = its_image image _ _ index are passed segment _ c.in-Some-segment.ensures.steps in
    let at = its_place image _ _ index are passed segment _ c.in-Some-segment.ensures.steps in
    let here = its_rules image table chains header index segment.place segment.image same at c.segment_survey-other.result c.segment_survey-other.ensures in
    let Slot = SlotOf image table chains header in
    let Bind = BindOf image table chains header in (
      tt,
      tt,
      passed_more _ _ index passed segment _ c.in-Some-segment.ensures.steps,
      omega (arith, few, c.if-index-count.false),
      subst (AreLeastPlaces (OfItem (index + 1) Slot) (OfItem (index + 1) Bind)) (sym c.joined-found.ensures)
          (survey_more Slot Bind index c.loop-segment.found c.segment_survey-other.result c.loop-segment.invariant.4 here),
    )

pub returns : goal.returns
returns c =
    let image = c.args.image.now in
    let chains = bytes_of c.args.chains.bytes in
    let header = c.args.chains.header in
    let count = c.in-Some.count in
    let is : seg_count chains header ≡ Some count = sym (c.in-Some.ensures ∙ ap (field Little 4 chains) c.from-starts_offset.ensures) in
    let good : ¬ HasBadEntries image chains header count = λ bad. false≢true (sym c.if-has_bad_entries.false ∙ c.has_bad_entries.ensures.1 bad) in
    let are = c.into_iter-segment-iterator.ensures.into_iter_gives ∙ c.segments-segment-items.ensures.segments in
    let past = entries_passed image chains header _ _ count c.loop-segment.index are c.loop-segment.invariant.2 c.in-None.ensures.steps.0 good in
    let few = c.loop-segment.invariant.3 in
    let all : c.loop-segment.index ≡ count = omega (arith, past, few) in
    entries_good image c.args.chains.start chains header count is good c.loop-segment.found
    (subst (λ (n : ℕ). AreLeastPlaces (OfItem n (SlotOf image c.args.chains.start chains header)) (OfItem n (BindOf image c.args.chains.start chains header)) c.loop-segment.found) all c.loop-segment.invariant.4)
