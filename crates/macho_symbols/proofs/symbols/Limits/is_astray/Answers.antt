use Rattle.macho_tables.proofs.Nots.{negated}
use Rattle.macho_symbols.proofs.symbols.Limits.is_astray.Goals as goal

pub returns-then-is_of_mapped_section-clause-astray : goal.returns-then-is_of_mapped_section-clause-astray
returns-then-is_of_mapped_section-clause-astray c image are =
    let defined = (c.is_of_mapped_section.ensures image are).0 c.if-is_of_mapped_section.true in
    let near = negated (c.has.ensures.near image are.addresses) in
    (λ is. (defined.0, defined.1, near.0 is), λ astray. near.1 astray.2)

pub returns-then-is_of_mapped_section-clause-same : goal.returns-then-is_of_mapped_section-clause-same
returns-then-is_of_mapped_section-clause-same c image are = record {
  two_level = are.two_level;
  libraries = are.libraries;
  sections = are.sections;
  addresses = c.has.ensures.same image are.addresses;
  names_end = are.names_end;
}
