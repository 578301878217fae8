use Rattle.macho_unambiguous.proofs.PageMaps.{one_maps}
use Rattle.macho_unambiguous.proofs.law.page_has_one_byte.Goals as goal

pub returns : goal.returns
returns c = one_maps c.args.file.now c.requires.layout c.requires.strict c.requires.slice c.requires.command c.requires.page c.requires.protection c.requires.encrypted
