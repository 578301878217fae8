use Rattle.std.proofs.Common.{sym, subst, rules, tests}
use Rattle.macho_fields.specs.FirstPlace.{IsLeastPlace}
use Rattle.macho_readers.specs.Segments.{IsLessAllowed, BreaksSegmentProtection}
use Rattle.macho_readers.proofs.Found.{first_segment}
use Rattle.macho_readers.proofs.segments.segment_protection.Goals as goal

pub returns : goal.returns
returns c =
    let image = c.args.image.now in
    subst (IsLeastPlace (BreaksSegmentProtection image)) (sym c.place_of_segment.ensures)
    (first_segment image c.segments.ensures.opened c.segments.ensures.segments _ IsLessAllowed c.find.result c.find.ensures.ran (λ s b q k. search (rules, tests)))
