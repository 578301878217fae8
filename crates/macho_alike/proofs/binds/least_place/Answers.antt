use Rattle.std.proofs.Common.{◌≤◌, ◌+◌, ◌-◌, ◌/◌, ◌∙◌, ℕ, sym, arith, inl, inr}
use Rattle.std.proofs.lemmas.Bool.{cases_lt, false≢true}
use Rattle.macho_alike.specs.BindLists.{AnyClashBy}
use Rattle.macho_alike.proofs.BindPairs.{clash_more}
use Rattle.macho_alike.proofs.binds.least_place.Goals as goal

pub loop-low-init : goal.loop-low-init
loop-low-init c = (omega arith, rw (c.len-high.ensures.count, c.bytes.ensures.bytes) c.requires.some, λ place broken. omega arith)

pub loop-low-preserved-then-clash_by : goal.loop-low-preserved-then-clash_by
loop-low-preserved-then-clash_by c =
    let (order, some, none) = c.loop-low.invariant in
    let here = c.clash_by.ensures.0 c.if-clash_by.true in
    (none _ here, here, none)

pub loop-low-preserved : goal.loop-low-preserved
loop-low-preserved c =
    let (order, some, none) = c.loop-low.invariant in
    let middle = c.loop-low.low + (c.loop-low.high - c.loop-low.low) / 2 in
    let past : (place : ℕ) → AnyClashBy c.args.image.now c.args.binds.now place → middle + 1 ≤ place =
    λ place broken. elim (cases_lt middle place) [
      | inl less ↦ omega (arith, less)
      | inr more ↦ absurd (false≢true (sym c.if-clash_by.false ∙ c.clash_by.ensures.1 (clash_more c.args.image.now c.args.binds.now place middle more broken)))
    ] in
    (past c.loop-low.high some, some, past)

pub returns-clause-some : goal.returns-clause-some
returns-clause-some c = c.loop-low.invariant.1

pub returns-clause-least : goal.returns-clause-least
returns-clause-least c =
    let (order, some, none) = c.loop-low.invariant in
    λ place broken. let least = none place broken in omega (arith, least, c.loop-low-test.false)
