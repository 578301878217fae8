use Rattle.macho_alike.proofs.BindAnswers.{least_alone}
use Rattle.macho_alike.proofs.binds.bind_once.Goals as goal

pub returns-clause-least : goal.returns-clause-least
returns-clause-least c = least_alone c.args.image.now c.opcode_bind_once.result c.opcode_bind_once.ensures.least
