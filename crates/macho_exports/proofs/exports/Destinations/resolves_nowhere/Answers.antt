use Rattle.std.proofs.Common.{ℕ, ◌+◌}
use Rattle.macho_fields.proofs.Options.{of_some, some_has}
use Rattle.macho_tables.specs.MappedAddresses.{IsMapped}
use Rattle.macho_exports.proofs.exports.Destinations.resolves_nowhere.Goals as goal

pub returns-in-Some-clause-nowhere : goal.returns-in-Some-clause-nowhere
returns-in-Some-clause-nowhere c image are =
    let says = c.is_unmapped.ensures.unmapped image are in
    let P = λ (r : ℕ). ¬ IsMapped image (c.args.base + r) in (
      λ so. of_some P c.args.resolver c.in-Some.resolver c.in-Some.is (says.0 so),
      λ has. says.1 (some_has P c.args.resolver c.in-Some.resolver c.in-Some.is has),
    )
