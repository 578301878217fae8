use Rattle.std.proofs.Common.{length, arith}
use Rattle.std.proofs.lemmas.List.{get_or_default}
use Rattle.macho_alike.specs.declared.binds.Compared.TheVariants as compared
use Rattle.macho_alike.proofs.BindPairs.{no_bind, named, passed_none, passed_next, last_inside, passed_all}
use Rattle.macho_alike.proofs.binds.agree_in_names.Goals as goal

pub loop-bind-init : goal.loop-bind-init
loop-bind-init c = passed_none compared.Names c.args.image.now c.args.binds.now (length c.args.image.now)

pub is_apart_from-requires-clause-before : goal.is_apart_from-requires-clause-before
is_apart_from-requires-clause-before c =
    last_inside compared.Names c.args.image.now c.args.binds.now (length c.args.image.now) c.loop-bind.bind-index c.loop-bind.last c.loop-bind.invariant (omega (arith, c.loop-bind-test.true)) c.requires

pub is_apart_from-requires-clause-inside : goal.is_apart_from-requires-clause-inside
is_apart_from-requires-clause-inside c =
    c.requires _ (c.loop-bind.bind-index, c.loop-bind-test.true, get_or_default c.args.binds.now c.loop-bind.bind-index _ no_bind c.loop-bind-test.true)

pub loop-bind-preserved : goal.loop-bind-preserved
loop-bind-preserved c =
    passed_next compared.Names c.args.image.now c.args.binds.now (length c.args.image.now) c.loop-bind.bind-index c.loop-bind.last c.loop-bind.invariant
    (named c.args.image.now c.args.binds.now c.requires c.loop-bind.bind-index c.loop-bind-test.true) (c.is_apart_from.ensures.0 c.if-not-is_apart_from.false)

pub returns : goal.returns
returns c = λ _. passed_all compared.Names c.args.image.now c.args.binds.now (length c.args.image.now) c.loop-bind.bind-index c.loop-bind.last c.loop-bind.invariant (omega (arith, c.loop-bind-test.false))
