use Rattle.macho_rows.specs.Image.{image_in}
use Rattle.macho_c.proofs.Relocated.{has_relocations}
use Rattle.macho_c.proofs.relocations.kesvuot_read_relocations.Goals as goal

pub returns-clause-all : goal.returns-clause-all
returns-clause-all c = λ unbroken.
    has_relocations (image_in c.args.file.now c.args.image.now) c.args.reloff c.args.nreloc unbroken
