use Rattle.macho_c.proofs.Started.{has_starts}
use Rattle.macho_c.proofs.function_starts.kesvuot_read_function_starts.Goals as goal

pub returns-clause-all : goal.returns-clause-all
returns-clause-all c = λ shows. has_starts c.args.file.now c.args.image.now shows
