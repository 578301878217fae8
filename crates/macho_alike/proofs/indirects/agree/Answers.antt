use Rattle.std.proofs.Common.{refl, arith}
use Rattle.macho_alike.proofs.SaidOrders.{agreed_none, agreed_next, agreed_all}
use Rattle.macho_alike.proofs.indirects.agree.Goals as goal

pub loop-one-init : goal.loop-one-init
loop-one-init c = agreed_none c.args.image.now c.args.said.now

pub loop-one-preserved : goal.loop-one-preserved
loop-one-preserved c =
    agreed_next c.args.image.now c.args.said.now c.loop-one.one-index c.loop-one.last c.loop-one.invariant c.requires c.loop-one-test.true
    (c.bytes_agreed.ensures (rw c.in-Some.is refl))

pub returns : goal.returns
returns c = λ _. agreed_all c.args.image.now c.args.said.now c.loop-one.one-index c.loop-one.last c.loop-one.invariant (omega (arith, c.loop-one-test.false))
