use Rattle.std.proofs.Common.{sym, subst}
use Rattle.macho_fields.specs.FirstPlace.{IsLeastPlace}
use Rattle.macho_tables.specs.Places.{lesser}
use Rattle.macho_readers.specs.Sections.{BreaksSectionAlone}
use Rattle.macho_readers.proofs.SectionAlone.{least_alone}
use Rattle.macho_readers.proofs.section_alone.section_alone.Goals as goal

pub returns : goal.returns
returns c =
    let image = c.args.image.now in
    record {
      least = subst (IsLeastPlace (BreaksSectionAlone image)) (sym c.lesser.ensures)
          (subst (λ r. IsLeastPlace (BreaksSectionAlone image) (lesser c.in_ok-shared.shared r)) (sym c.lesser-others.ensures)
          (least_alone image c.requires c.in_ok-shared.shared c.in_ok-shared.ensures.least c.in_ok-over.over c.first_hiding-hiding.result c.in_ok-over.ensures.least c.first_hiding-hiding.ensures));
      memory = tt;
    }
