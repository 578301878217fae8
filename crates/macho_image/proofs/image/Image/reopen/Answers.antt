use Rattle.macho_image.proofs.image.Image.reopen.Goals as goal

pub invariant_of-result : goal.invariant_of-result
invariant_of-result c = record { opened = c.requires; all = c.of.ensures }
