use Rattle.macho_alike.proofs.BindAnswers.{chain_slots_apart}
use Rattle.macho_alike.proofs.law.chain_slot_has_one_pointer.Goals as goal

pub returns : goal.returns
returns c = chain_slots_apart c.args.image.now
