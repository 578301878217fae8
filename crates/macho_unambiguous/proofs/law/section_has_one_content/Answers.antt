use Rattle.macho_unambiguous.proofs.SectionBytes.{one_content}
use Rattle.macho_unambiguous.proofs.law.section_has_one_content.Goals as goal

pub returns : goal.returns
returns c = one_content c.args.image.now c.requires.layout c.requires.section
