use Rattle.std.proofs.Common.{ℕ, List, sym, ap, ◌∙◌, subst, arith, get_or}
use Rattle.macho_fields.specs.Bytes.{bytes_of}
use Rattle.macho_fields.specs.Image.{commands_of}
use Rattle.macho_fields.specs.Segment.{all_segments, base_of}
use Rattle.macho_chains.specs.ChainStarts.{HasBadStarts}
use Rattle.macho_chains.proofs.ChainStarts.{starts_more, starts_bad, starts_passed, entries_passed}
use Rattle.macho_tables.proofs.SegmentWalks.{its_image, its_place}
use Rattle.macho_chains.proofs.chain_starts.first_with_bad_starts.Goals as goal

pub past_starts-requires-clause-base : goal.past_starts-requires-clause-base
past_starts-requires-clause-base c =
    let are = c.into_iter-segment-iterator.ensures.into_iter_gives ∙ c.segments-segment-items.ensures.segments in
    let same = its_image c.args.image.now _ _ c.loop-segment.index are c.loop-segment.invariant.2.passed c.in-Some.segment _ c.in-Some.ensures.steps in
    c.base-base.ensures ∙ ap (λ (image : List ℕ). base_of image (commands_of image)) (sym same)

pub past_starts-requires-clause-segment : goal.past_starts-requires-clause-segment
past_starts-requires-clause-segment c =
    let are = c.into_iter-segment-iterator.ensures.into_iter_gives ∙ c.segments-segment-items.ensures.segments in
    let same = its_image c.args.image.now _ _ c.loop-segment.index are c.loop-segment.invariant.2.passed c.in-Some.segment _ c.in-Some.ensures.steps in
    ap (λ (image : List ℕ). get_or (all_segments image) c.loop-segment.index 0) same
    ∙ its_place c.args.image.now _ _ c.loop-segment.index are c.loop-segment.invariant.2.passed c.in-Some.segment _ c.in-Some.ensures.steps

pub returns-in_default : goal.returns-in_default
returns-in_default c =
    let chains = bytes_of c.args.chains.bytes in
    let are = c.into_iter-segment-iterator.ensures.into_iter_gives ∙ c.segments-segment-items.ensures.segments in
    let same = its_image c.args.image.now _ _ c.loop-segment.index are c.loop-segment.invariant.2.passed c.in-Some.segment _ c.in-Some.ensures.steps in
    let few = c.loop-segment.invariant.2.few in
    starts_bad c.args.image.now chains c.args.chains.header _ _ c.args.count c.loop-segment.index c.loop-segment.reach c.loop-segment.invariant.2
    (omega (arith, few, c.if-index-count.false))
    (subst (λ (image : List ℕ). HasBadStarts image chains c.args.chains.header c.loop-segment.index) same c.in_default.ensures)

pub loop-segment-preserved : goal.loop-segment-preserved
loop-segment-preserved c =
    let chains = bytes_of c.args.chains.bytes in
    let are = c.into_iter-segment-iterator.ensures.into_iter_gives ∙ c.segments-segment-items.ensures.segments in
    let same = its_image c.args.image.now _ _ c.loop-segment.index are c.loop-segment.invariant.2.passed c.in-Some.segment _ c.in-Some.ensures.steps in
    let few = c.loop-segment.invariant.2.few in
    let (good, on) = c.in-Some-past_starts.ensures in (
      tt,
      tt,
      starts_more c.args.image.now chains c.args.chains.header _ _ c.args.count c.loop-segment.index c.loop-segment.reach c.loop-segment.invariant.2 c.in-Some.segment _ c.in-Some.ensures.steps
          c.in-Some-past_starts.next (omega (arith, few, c.if-index-count.false))
          (subst (λ (image : List ℕ). ¬ HasBadStarts image chains c.args.chains.header c.loop-segment.index) same good) on,
    )

pub returns : goal.returns
returns c =
    let chains = bytes_of c.args.chains.bytes in
    let are = c.into_iter-segment-iterator.ensures.into_iter_gives ∙ c.segments-segment-items.ensures.segments in
    let walk = c.loop-segment.invariant.2 in
    starts_passed c.args.image.now chains c.args.chains.header _ _ c.args.count c.loop-segment.index c.loop-segment.reach walk
    (entries_passed c.args.image.now chains c.args.chains.header _ _ c.args.count c.loop-segment.index are walk.passed c.in-None.ensures.steps.0 c.requires)
