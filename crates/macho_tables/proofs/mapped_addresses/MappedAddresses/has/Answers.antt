use Rattle.macho_tables.proofs.SegmentMemory.{held_if_some}
use Rattle.macho_tables.proofs.mapped_addresses.MappedAddresses.has.Goals as goal

pub returns-clause-mapped : goal.returns-clause-mapped
returns-clause-mapped c image are =
    let held = held_if_some c.args.self.now.memory c.args.address c.holding_next.result c.holding_next.ensures c.is_some.result c.is_some.ensures in
    let same = are.memory c.args.address in
    (λ is. same.0 (held.0 is), λ mapped. held.1 (same.1 mapped))
