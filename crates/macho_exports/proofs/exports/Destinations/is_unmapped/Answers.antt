use Rattle.std.proofs.Common.{◌↔◌, ℕ, ◌+◌, IsTrue, arith, refl, subst}
use Rattle.std.specs.Prelude.{not}
use Rattle.macho_tables.specs.MappedAddresses.{IsMapped}
use Rattle.macho_tables.proofs.Nots.{negated}
use Rattle.macho_exports.proofs.exports.Destinations.is_unmapped.Goals as goal

pub returns-in-Some-clause-unmapped : goal.returns-in-Some-clause-unmapped
returns-in-Some-clause-unmapped c image are =
    subst (λ (address : ℕ). IsTrue (not c.has.result) ↔ (¬ IsMapped image address)) c.in-Some.ensures.1 (negated (c.has.ensures.mapped image are.addresses))

pub returns-in-Some-clause-same : goal.returns-in-Some-clause-same
returns-in-Some-clause-same c image are = record {
  libraries = are.libraries;
  base = are.base;
  addresses = c.has.ensures.same image are.addresses;
}

pub returns-in-None-clause-unmapped : goal.returns-in-None-clause-unmapped
returns-in-None-clause-unmapped c image are = (
  λ _ mapped. let near = are.addresses.near (c.args.base + c.args.offset) mapped in omega (arith, near),
  λ _. refl,
)
