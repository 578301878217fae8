use Rattle.std.proofs.Common.{arith}
use Rattle.macho_fields.specs.Bytes.{bytes_of}
use Rattle.macho_image.specs.Command.{command_of}
use Rattle.macho_strict.proofs.Encryptions.{encryption_inside}
use Rattle.macho_strict.proofs.encrypted.encrypted.Goals as goal

pub read_u32-requires : goal.read_u32-requires
read_u32-requires c =
    let inside = encryption_inside (bytes_of c.args.image) (command_of c.args.command.now) c.requires c.if-command-ne-LC_ENCRYPTION_INFO_64.false in omega arith

pub read_u32-requires-2 : goal.read_u32-requires-2
read_u32-requires-2 c =
    let inside = encryption_inside (bytes_of c.args.image) (command_of c.args.command.now) c.requires c.if-command-ne-LC_ENCRYPTION_INFO_64.false in omega arith
