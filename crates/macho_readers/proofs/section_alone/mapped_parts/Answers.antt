use Rattle.std.proofs.Common.{◌∙◌, ◌++◌, [], ◌∷◌, map, refl, sym, ap}
use Rattle.macho_image.specs.Segment.{SectionView}
use Rattle.macho_rules.proofs.Mapped.{pushed}
use Rattle.macho_rules.proofs.Surveys.{walked_on, walked_all}
use Rattle.macho_readers.specs.SectionAlone.{mapped_part}
use Rattle.macho_readers.proofs.NamedSections.{sections}
use Rattle.macho_readers.proofs.SectionAlone.{parts_of}
use Rattle.macho_readers.proofs.section_alone.mapped_parts.Goals as goal

pub loop-section-init : goal.loop-section-init
loop-section-init c = ([], refl, c.in_ok-parts.ensures.none)

pub loop-section-preserved : goal.loop-section-preserved
loop-section-preserved c =
    let (seen, reached, listed) = c.loop-section.invariant in
    let s = c.in-Some.section in (
      seen ++ s ∷ [],
      walked_on _ seen _ s _ reached c.in-Some.ensures.steps,
      pushed (λ (s : SectionView). mapped_part s.image (s.segment, s.place)) seen s c.loop-section.parts.spans c.push.new.self.spans c.mapped_part.result c.in_ok-push.ensures.ok listed c.mapped_part.ensures,
    )

pub returns : goal.returns
returns c =
    let image = c.args.image.now in
    let are = c.into_iter-section-iterator.ensures.into_iter_gives ∙ c.sections-section-items.ensures.sections in
    let (seen, reached, listed) = c.loop-section.invariant in
    let all = walked_all _ seen _ reached c.in-None.ensures.steps.0 in
    listed ∙ (ap (map (λ (s : SectionView). mapped_part s.image (s.segment, s.place))) (sym all ∙ are) ∙ parts_of image (sections image))
