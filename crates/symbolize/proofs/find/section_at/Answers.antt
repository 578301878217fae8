use Rattle.std.proofs.Common.{◌∙◌, List, ap, rules, tests}
use Rattle.std.proofs.lemmas.Iterator.{first_from_find}
use Rattle.std.proofs.lemmas.Iterator.Consumers.{YieldsList-from_first}
use Rattle.macho_image.specs.Segment.{SectionView}
use Rattle.symbolize.specs.Find.{sections, HasAddress}
use Rattle.symbolize.proofs.Searches.{first_with}
use Rattle.symbolize.proofs.find.section_at.Goals as goal

pub returns : goal.returns
returns c =
    let all = sections c.args.image.now in
    first_with c.args.address all c.find.result
    (first_from_find _ _ c.find.result (HasAddress c.args.address) (λ section. ¬ HasAddress c.args.address section) c.find.ensures.ran
    (YieldsList-from_first (λ (x : SectionView). x) (λ (left : List SectionView). left) all (c.sections.ensures.sections ∙ ap sections c.image.ensures.image))
    (λ x q k. search (rules, tests)) (λ x q k. search (rules, tests)))
