use Rattle.std.proofs.Common.{ℕ, Contains, Option, sym, subst, rules, tests}
use Rattle.macho_fields.specs.FirstPlace.{IsLeastPlace}
use Rattle.macho_fields.specs.Segment.{all_segments}
use Rattle.macho_tables.proofs.Found.{each_segment}
use Rattle.macho_readers.specs.Segments.{IsMisnamedBut}
use Rattle.macho_readers.proofs.Found.{first_segment}
use Rattle.macho_readers.proofs.segments.first_misnamed.Goals as goal

pub find-requires-clause-callable : goal.find-requires-clause-callable
find-requires-clause-callable c = each_segment c.args.image.now c.segments.ensures.segments c.segments.ensures.opened (λ s q k. search (rules, tests)) (λ s inside. search rules)

pub returns : goal.returns
returns c =
    let image = c.args.image.now in
    subst (λ (base : Option ℕ). IsLeastPlace (λ place. Contains (all_segments image) place × IsMisnamedBut base image place) c.place_of_segment.result) c.base_segment-base.ensures
    (subst (IsLeastPlace (λ place. Contains (all_segments image) place × IsMisnamedBut c.base_segment-base.result image place)) (sym c.place_of_segment.ensures)
    (first_segment image c.segments.ensures.opened c.segments.ensures.segments _ (IsMisnamedBut c.base_segment-base.result) c.find.result c.find.ensures.ran
    (λ s b q k. search (rules, tests))))
