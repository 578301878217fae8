use Rattle.std.proofs.Common.{◌∙◌, refl, sym, arith}
use Rattle.std.proofs.lemmas.Bool.{false≢true}
use Rattle.std.proofs.lemmas.List.{get_or_default}
use Rattle.macho_alike.proofs.BindPairs.{no_bind, passed_none, passed_over, passed_next, passed_clashes, last_inside, passed_all}
use Rattle.macho_alike.proofs.binds.clash.Goals as goal
use Rattle.macho_alike.proofs.binds.clash.Goals.{then-is_taken+else-not-is_apart_from, else-is_taken}

pub loop-bind-init : goal.loop-bind-init
loop-bind-init c = passed_none c.args.what c.args.image.now c.args.binds.now c.args.limit

pub is_apart_from-requires-clause-before : goal.is_apart_from-requires-clause-before
is_apart_from-requires-clause-before c =
    last_inside c.args.what c.args.image.now c.args.binds.now c.args.limit c.loop-bind.bind-index c.loop-bind.last c.loop-bind.invariant (omega (arith, c.loop-bind-test.true)) c.requires.inside

pub is_apart_from-requires-clause-inside : goal.is_apart_from-requires-clause-inside
is_apart_from-requires-clause-inside c =
    c.requires.inside _ (c.loop-bind.bind-index, c.loop-bind-test.true, get_or_default c.args.binds.now c.loop-bind.bind-index _ no_bind c.loop-bind-test.true)

pub returns-then-not-is_apart_from : goal.returns-then-not-is_apart_from
returns-then-not-is_apart_from c = (
  λ _. passed_clashes c.args.what c.args.image.now c.args.binds.now c.args.limit c.loop-bind.bind-index c.loop-bind.last c.loop-bind.invariant
      c.loop-bind-test.true c.requires.sorted c.requires.inside (c.is_taken.ensures.0 c.if-is_taken.true)
      (λ far. false≢true (sym c.if-not-is_apart_from.true ∙ c.is_apart_from.ensures.1 far)),
  λ _. refl,
)

pub loop-bind-preserved : goal.loop-bind-preserved
loop-bind-preserved c = elim c.if-is_taken.branch [
  | then-is_taken+else-not-is_apart_from w ↦
      rw w.last-is (passed_next c.args.what c.args.image.now c.args.binds.now c.args.limit c.loop-bind.bind-index c.loop-bind.last c.loop-bind.invariant
      (c.is_taken.ensures.0 w.if-is_taken.true) (w.is_apart_from.ensures.0 w.if-not-is_apart_from.false))
  | else-is_taken w ↦
      rw w.last-is (passed_over c.args.what c.args.image.now c.args.binds.now c.args.limit c.loop-bind.bind-index c.loop-bind.last c.loop-bind.invariant
      (λ took. false≢true (sym w.if-is_taken.false ∙ c.is_taken.ensures.1 took)))
]

pub returns : goal.returns
returns c = (
  λ wrong. absurd (false≢true wrong),
  λ clash. absurd (passed_all c.args.what c.args.image.now c.args.binds.now c.args.limit c.loop-bind.bind-index c.loop-bind.last c.loop-bind.invariant (omega (arith, c.loop-bind-test.false)) clash),
)
