use Rattle.std.proofs.Common.{Option, sym, subst}
use Rattle.macho_fields.specs.Segment.{Source, IsAtAddress}
use Rattle.macho_rules.specs.Mapping.{sources}
use Rattle.macho_tables.specs.CodeParts.{AreCodeParts}
use Rattle.macho_tables.proofs.RunBytes.{gives_executable}
use Rattle.macho_tables.proofs.run_bytes.RunBytes.has.Goals as goal

pub returns-clause-found : goal.returns-clause-found
returns-clause-found c image strictly are =
    let same = gives_executable image c.args.address strictly (sources c.args.self.now.mapping) (are.mapping c.args.address) c.args.self.now.code are.code in
    (λ is. same.0 (c.gives.ensures.found.0 is), λ any. c.gives.ensures.found.1 (same.1 any))

pub returns-clause-same : goal.returns-clause-same
returns-clause-same c image are = record {
  mapping = λ address. subst (λ (given : Option Source). IsAtAddress image address given) (sym (c.gives.ensures.mapping address)) (are.mapping address);
  code = subst (AreCodeParts image) (sym c.gives.ensures.code) are.code;
}
