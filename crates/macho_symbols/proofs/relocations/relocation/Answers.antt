use Rattle.std.proofs.Common.{sym, subst}
use Rattle.macho_fields.specs.FirstPlace.{IsLeastPlace}
use Rattle.macho_symbols.specs.Relocations.{BreaksRelocation, InSections, InDysymtab, IsBadOf}
use Rattle.macho_symbols.specs.declared.relocations.Owner.TheVariants as owners
use Rattle.macho_symbols.proofs.relocations.relocation.Goals as goal
use Rattle.macho_tables.proofs.Places.{least_joined}

pub returns : goal.returns
returns c =
    let image = c.args.image.now in
    subst (IsLeastPlace (BreaksRelocation image)) (sym c.lesser.ensures)
    (least_joined (InSections image (IsBadOf image owners.Section)) (InDysymtab image (IsBadOf image owners.Dysymtab)) c.of_sections.result c.of_dysymtab.result c.of_sections.ensures c.of_dysymtab.ensures)
