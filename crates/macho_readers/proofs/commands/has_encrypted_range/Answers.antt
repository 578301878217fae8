use Rattle.std.proofs.Common.{refl, arith}
use Rattle.macho_fields.specs.declared.header.loader.TheConstants as loader
use Rattle.macho_fields.specs.declared.load_command.Structure.TheVariants.{EncryptionInfoCommand64}
use Rattle.macho_image.specs.Command.{command_of}
use Rattle.macho_tables.proofs.SymbolTables.{structure_whole}
use Rattle.macho_readers.proofs.commands.has_encrypted_range.Goals as goal

pub cryptid-requires : goal.cryptid-requires
cryptid-requires c =
    let whole = structure_whole c.args.image.now (command_of c.args.command.now) c.requires loader.LC_ENCRYPTION_INFO_64 c.if-command-eq-LC_ENCRYPTION_INFO_64.true EncryptionInfoCommand64 refl in
    omega (arith, whole)
