use Rattle.std.proofs.Common.{arith}
use Rattle.macho_alike.proofs.BindRenames.{listed_none, listed_again, listed_more, listed_all}
use Rattle.macho_alike.proofs.bind_names.names_of.Goals as goal
use Rattle.macho_alike.proofs.bind_names.names_of.Goals.{then-not-is_last+in_ok-push, else-not-is_last}

pub loop-bind-init : goal.loop-bind-init
loop-bind-init c = listed_none c.args.binds.now c.new-names.result.items c.new-names.ensures.items

pub loop-bind-preserved : goal.loop-bind-preserved
loop-bind-preserved c = elim c.if-not-is_last.branch [
  | then-not-is_last+in_ok-push w ↦
      rw (w.names-is, w.last-is) (listed_more c.args.binds.now c.loop-bind.bind-index c.loop-bind.names.items c.loop-bind.last c.loop-bind.invariant _ w.in_ok-push.ensures.items)
  | else-not-is_last w ↦
      rw (w.names-is, w.last-is) (listed_again c.args.binds.now c.loop-bind.bind-index c.loop-bind.names.items c.loop-bind.last c.loop-bind.invariant (c.is_last.ensures.0 w.if-not-is_last.false))
]

pub returns-clause-names : goal.returns-clause-names
returns-clause-names c =
    listed_all c.args.binds.now c.loop-bind.bind-index c.loop-bind.names.items c.loop-bind.last c.loop-bind.invariant (omega (arith, c.loop-bind.auto.bind-index-end, c.loop-bind-test.false))
