use Rattle.macho_exports.proofs.exports.Destinations.of.Goals as goal

pub returns : goal.returns
returns c = record {
  libraries = c.library_count.ensures;
  base = c.base.ensures;
  addresses = c.in_ok-addresses.ensures;
}
