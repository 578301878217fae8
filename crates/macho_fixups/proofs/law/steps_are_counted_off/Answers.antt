use Rattle.macho_fixups.proofs.StepLists.{all_steps}
use Rattle.macho_fixups.proofs.law.steps_are_counted_off.Goals as goal

pub returns : goal.returns
returns c = λ steps next are none. all_steps c.args.opcodes c.args.stream.now steps 0 next are none
