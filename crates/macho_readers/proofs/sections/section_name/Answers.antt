use Rattle.std.proofs.Common.{◌⊎◌, sym, subst}
use Rattle.macho_fields.specs.FirstPlace.{IsLeastPlace}
use Rattle.macho_tables.proofs.Places.{least_joined, least_same}
use Rattle.macho_readers.specs.Sections.{AtSection, IsMisnamed, HasEarlierNames, BreaksSectionName}
use Rattle.macho_readers.proofs.NamedSections.{both}
use Rattle.macho_readers.proofs.sections.section_name.Goals as goal

pub returns : goal.returns
returns c =
    let image = c.args.image.now in
    let joined = least_joined (AtSection image (IsMisnamed image)) (AtSection image (HasEarlierNames image)) c.first_misnamed-misnamed.result c.in_ok-repeated.repeated c.first_misnamed-misnamed.ensures c.in_ok-repeated.ensures.least in
    record {
      least = subst (IsLeastPlace (BreaksSectionName image)) (sym c.lesser.ensures) (least_same (λ place. AtSection image (IsMisnamed image) place ⊎ AtSection image (HasEarlierNames image) place) (BreaksSectionName image) _ (both image) joined);
      memory = tt;
    }
