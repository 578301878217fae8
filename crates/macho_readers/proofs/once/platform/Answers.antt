use Rattle.std.proofs.Common.{length, refl, ap, arith}
use Rattle.macho_fields.specs.declared.header.loader.TheConstants as loader
use Rattle.macho_fields.specs.declared.load_command.Structure.TheVariants.{BuildVersionCommand}
use Rattle.macho_image.specs.Command.{command_of}
use Rattle.macho_tables.proofs.SymbolTables.{structure_whole}
use Rattle.macho_readers.proofs.once.platform.Goals as goal

pub read_u32-requires : goal.read_u32-requires
read_u32-requires c =
    let whole = structure_whole c.args.image.now (command_of c.args.command.now) c.requires loader.LC_BUILD_VERSION c.if-command-eq-LC_BUILD_VERSION.true BuildVersionCommand refl in
    omega (arith, whole, ap length c.bytes.ensures.bytes)
