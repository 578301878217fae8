use Rattle.std.proofs.Common.{ap, sym}
use Rattle.macho_image.specs.Command.{command_of}
use Rattle.macho_image.proofs.Kept.{first_place, no_first}
use Rattle.macho_rows.specs.Image.{bit, id_in}
use Rattle.macho_rows.proofs.image.id_bit.Goals as goal

pub returns-in-Some : goal.returns-in-Some
returns-in-Some c = ap (bit 32) (sym (first_place c.args.image.now (id_in c.args.image.now) (command_of c.in-Some.field-0) c.in-Some.ensures))

pub returns-in-None : goal.returns-in-None
returns-in-None c = ap (bit 32) (sym (no_first c.args.image.now (id_in c.args.image.now) c.in-None.ensures))
