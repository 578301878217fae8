use Rattle.std.proofs.Common.{◌⊎◌, sym, subst}
use Rattle.macho_fields.specs.FirstPlace.{IsLeastPlace}
use Rattle.macho_tables.proofs.Places.{least_joined, least_same}
use Rattle.macho_readers.specs.Segments.{BreaksSegmentName}
use Rattle.macho_readers.proofs.NamedSegments.{Misnamed, Repeats, both}
use Rattle.macho_readers.proofs.segments.segment_name.Goals as goal

pub returns : goal.returns
returns c =
    let image = c.args.image.now in
    let joined = least_joined (Misnamed image) (Repeats image) c.first_misnamed-misnamed.result c.in_ok-repeated.repeated c.first_misnamed-misnamed.ensures c.in_ok-repeated.ensures.least in
    record {
      least = subst (IsLeastPlace (BreaksSegmentName image)) (sym c.lesser.ensures) (least_same (λ place. Misnamed image place ⊎ Repeats image place) (BreaksSegmentName image) _ (both image) joined);
      memory = tt;
    }
