use Rattle.std.proofs.Common.{◌↔◌, sym, subst, arith, IsTrue, get_or, false}
use Rattle.macho_symbols.specs.Sections.{IsMappedSection}
use Rattle.macho_symbols.proofs.sections.MappedSections.has.Goals as goal

pub returns : goal.returns
returns c image are =
    let fits = c.ranges.number.fits in
    subst (λ n. IsTrue (get_or c.args.self.now.are_mapped n false) ↔ IsMappedSection image c.args.number) (sym c.from.ensures) (are c.args.number (omega (arith, fits)))
