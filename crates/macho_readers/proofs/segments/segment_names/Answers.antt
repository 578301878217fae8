use Rattle.std.proofs.Common.{◌∙◌, ◌+◌, ◌++◌, [], ◌∷◌, map, refl, sym, ap}
use Rattle.macho_fields.specs.Segment.{all_segments}
use Rattle.macho_image.specs.Segment.{SegmentView}
use Rattle.macho_rules.proofs.Surveys.{walked_on, walked_all}
use Rattle.macho_image.specs.Segment.{short_name}
use Rattle.macho_readers.specs.Names.{number_of, names_of}
use Rattle.macho_readers.proofs.NamedSegments.{named, mapped_names}
use Rattle.macho_readers.proofs.SameNames.{listed_more}
use Rattle.macho_readers.proofs.segments.segment_names.Goals as goal

pub loop-segment-init : goal.loop-segment-init
loop-segment-init c = ([], refl, ap (map names_of) c.new-names.ensures.items)

pub loop-segment-preserved : goal.loop-segment-preserved
loop-segment-preserved c =
    let (seen, reached, listed) = c.loop-segment.invariant in
    let s = c.in-Some.segment in
    let number = c.name_number.ensures ∙ (λ j. number_of (short_name (c.image.ensures j) (c.place.ensures j + 8))) in (
      seen ++ s ∷ [],
      walked_on _ seen _ s _ reached c.in-Some.ensures.steps,
      listed_more (λ (s : SegmentView). named s.image s.place) seen seen s _ _ _ c.in_ok-push.ensures.items listed (λ i. (number i, 0, c.place-in-loop-segment.ensures i)),
    )

pub returns : goal.returns
returns c =
    let image = c.args.image.now in
    let are = c.into_iter-segment-iterator.ensures.into_iter_gives ∙ c.segments-segment-items.ensures.segments in
    let (seen, reached, listed) = c.loop-segment.invariant in
    let all = walked_all _ seen _ reached c.in-None.ensures.steps.0 in
    record { names = listed ∙ (ap (map (λ (s : SegmentView). named s.image s.place)) (sym all ∙ are) ∙ mapped_names image (all_segments image)) }
