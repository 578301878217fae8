use Rattle.std.proofs.Common.{inl}
use Rattle.macho_alike.proofs.BindAnswers.{one_bind, one_slot}
use Rattle.macho_alike.proofs.law.slot_has_one_bind.Goals as goal

pub returns-clause-bind : goal.returns-clause-bind
returns-clause-bind c = one_bind c.args.image.now (λ place broken. c.requires place (inl broken))

pub returns-clause-slot : goal.returns-clause-slot
returns-clause-slot c = one_slot c.args.image.now (λ place broken. c.requires place (inl broken))
