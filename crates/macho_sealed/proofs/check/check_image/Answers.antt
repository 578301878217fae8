use Rattle.macho_sealed.proofs.Good.{whole_signature}
use Rattle.macho_sealed.proofs.Places.{missing_first}
use Rattle.macho_sealed.proofs.check.check_image.Goals as goal

pub check_signature-requires-clause-whole : goal.check_signature-requires-clause-whole
check_signature-requires-clause-whole c = whole_signature c.args.image.now c.requires.linked c.in-Some.table c.in-Some.ensures.table

pub returns-in-None : goal.returns-in-None
returns-in-None c = missing_first c.args.image.now c.in-None.ensures.table c.at.result c.at.ensures.rule c.at.ensures.place
