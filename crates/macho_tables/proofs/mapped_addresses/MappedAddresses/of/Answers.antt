use Rattle.macho_tables.proofs.MappedAddresses.{mapped_near}
use Rattle.macho_tables.proofs.mapped_addresses.MappedAddresses.of.Goals as goal

pub returns : goal.returns
returns c = record {
  memory = c.in_ok-memory.ensures;
  near = mapped_near c.args.image.now c.requires;
}
