use Rattle.std.proofs.Common.{◌∙◌, refl, sym, subst, arith, inl, inr}
use Rattle.std.proofs.lemmas.Bool.{false≢true}
use Rattle.macho_symbols.proofs.addresses.is_near_mapped.Goals as goal
use Rattle.macho_tables.specs.MappedAddresses.{IsMapped}

pub returns-then-has-clause-near : goal.returns-then-has-clause-near
returns-then-has-clause-near c image are = (λ _. inl ((c.has.ensures.mapped image are).0 c.if-has.true), λ _. refl)

pub returns-in-Some-clause-near : goal.returns-in-Some-clause-near
returns-in-Some-clause-near c image are =
    let here = c.has.ensures.mapped image are in
    let before = c.has-in-Some.ensures.mapped image (c.has.ensures.same image are) in
    let is = c.in-Some.ensures in (
      λ found. inr (c.in-Some.last, omega (arith, is), before.0 found),
      λ near. elim near [
        | inl mapped ↦ absurd (false≢true (sym c.if-has.false ∙ here.1 mapped))
        | inr past ↦ before.1 (subst (IsMapped image) (let same = past.1 in omega (arith, is, same)) past.2)
      ],
    )

pub returns-in-Some-clause-same : goal.returns-in-Some-clause-same
returns-in-Some-clause-same c image are = c.has-in-Some.ensures.same image (c.has.ensures.same image are)

pub returns-in-None-clause-near : goal.returns-in-None-clause-near
returns-in-None-clause-near c image are =
    let here = c.has.ensures.mapped image are in
    let is = c.in-None.ensures in (
      λ wrong. absurd (false≢true wrong),
      λ near. elim near [
        | inl mapped ↦ absurd (false≢true (sym c.if-has.false ∙ here.1 mapped))
        | inr past ↦ absurd (let same = past.1 in omega (arith, is, same))
      ],
    )
