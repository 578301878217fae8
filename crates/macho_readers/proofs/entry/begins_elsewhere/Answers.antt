use Rattle.std.proofs.Common.{refl}
use Rattle.macho_fields.specs.declared.header.loader.TheConstants as loader
use Rattle.macho_fields.specs.declared.load_command.Structure.TheVariants.{EntryPointCommand}
use Rattle.macho_image.specs.Command.{command_of}
use Rattle.macho_tables.proofs.SymbolTables.{structure_whole}
use Rattle.macho_readers.proofs.entry.begins_elsewhere.Goals as goal

pub begins_at_offset-requires : goal.begins_at_offset-requires
begins_at_offset-requires c = structure_whole c.args.image.now (command_of c.args.command.now) c.requires loader.LC_MAIN c.if-command.true EntryPointCommand refl
