use Rattle.macho_fields.specs.Bytes.{bytes_of}
use Rattle.macho_image.specs.Command.{command_of}
use Rattle.macho_strict.proofs.ElementWalks.{described_hold}
use Rattle.macho_strict.proofs.elements.tables_of.Goals as goal

pub invariant_of-result : goal.invariant_of-result
invariant_of-result c = rw c.described_tables.ensures (described_hold (bytes_of c.args.image) (command_of c.args.command.now) c.requires.listed)
