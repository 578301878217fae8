use Rattle.macho_unambiguous.proofs.SectionsAlone.{one_at}
use Rattle.macho_unambiguous.proofs.law.address_has_one_section.Goals as goal

pub returns : goal.returns
returns c = one_at c.args.image.now c.requires
