use Rattle.std.proofs.Common.{◌≤◌, ◌<◌, ◌↔◌, ◌==◌, ℕ, ◌^◌, ◌∙◌, IsTrue, sym, arith, inl, inr, eqb-true, eq-eqb}
use Rattle.std.proofs.lemmas.Bool.{cases_lt}
use Rattle.std.proofs.Math.Nat.{zero-mul}
use Rattle.macho_fields.specs.Universal.{IsMultiple}
use Rattle.macho_fields.proofs.Alignment.{divides_by_rest, great_power}
use Rattle.macho_fat.proofs.survey.is_aligned.Goals as goal

-- past the 63rd power, 0 alone is a multiple
only_zero : (offset align : ℕ) → 64 ≤ align → offset < 2 ^ 64 → IsTrue (offset == 0) ↔ IsMultiple align offset
only_zero offset align great fits = (to, from)
  where
    to : IsTrue (offset == 0) → IsMultiple align offset
    to h = (0, zero-mul (2 ^ align) ∙ sym (eqb-true offset 0 h))

    from : IsMultiple align offset → IsTrue (offset == 0)
    from m = elim (cases_lt 0 offset) [ inl some ↦ absurd (great_power offset align great some fits m) | inr none ↦ eq-eqb offset 0 (omega arith) ]

pub returns-in-Some : goal.returns-in-Some
returns-in-Some c = divides_by_rest c.args.offset c.args.align c.in-Some.alignment c.in-Some.ensures.0 c.in-Some.ensures.1

pub returns-in-None : goal.returns-in-None
returns-in-None c = only_zero c.args.offset c.args.align (omega (arith, c.in-None.ensures)) (omega arith)
