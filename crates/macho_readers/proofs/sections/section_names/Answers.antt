use Rattle.std.proofs.Common.{◌∙◌, ◌++◌, [], ◌∷◌, map, refl, sym, ap}
use Rattle.macho_image.specs.Segment.{SectionView}
use Rattle.macho_rules.proofs.Surveys.{walked, walked_on, walked_all}
use Rattle.macho_readers.specs.Names.{names_of}
use Rattle.macho_readers.proofs.NamedSections.{named, sections, mapped_names, next_inside}
use Rattle.macho_readers.proofs.SameNames.{listed_more}
use Rattle.macho_readers.proofs.sections.section_names.Goals as goal

pub loop-section-init : goal.loop-section-init
loop-section-init c = ([], refl, ap (map names_of) c.new-names.ensures.items)

pub named-requires : goal.named-requires
named-requires c =
    let are = c.into_iter-section-iterator.ensures.into_iter_gives ∙ c.sections-section-items.ensures.sections in
    let (seen, reached, listed) = c.loop-section.invariant in
    let s = c.in-Some.section in
    (next_inside c.args.image.now c.sections-section-items.ensures.opened are seen _ s (walked _ seen _ s _ reached c.in-Some.ensures.steps)).1

pub loop-section-preserved : goal.loop-section-preserved
loop-section-preserved c =
    let (seen, reached, listed) = c.loop-section.invariant in
    let s = c.in-Some.section in (
      seen ++ s ∷ [],
      walked_on _ seen _ s _ reached c.in-Some.ensures.steps,
      listed_more (λ (s : SectionView). named s.image (s.segment, s.place)) seen seen s _ _ _ c.in_ok-push.ensures.items listed (ap names_of c.named.ensures),
    )

pub returns : goal.returns
returns c =
    let image = c.args.image.now in
    let are = c.into_iter-section-iterator.ensures.into_iter_gives ∙ c.sections-section-items.ensures.sections in
    let (seen, reached, listed) = c.loop-section.invariant in
    let all = walked_all _ seen _ reached c.in-None.ensures.steps.0 in
    record { names = listed ∙ (ap (map (λ (s : SectionView). named s.image (s.segment, s.place))) (sym all ∙ are) ∙ mapped_names image (sections image)) }
