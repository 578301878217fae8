-- A test, and its negation.
use Rattle.std.proofs.Common.{◌↔◌, IsTrue, Bool, true, false, refl}
use Rattle.std.specs.Prelude.{not}
use Rattle.std.proofs.lemmas.Bool.{false≢true}

pub not_true : (b : Bool) → IsTrue (not b) → ¬ IsTrue b
not_true true is = absurd (false≢true is)
not_true false is = λ wrong. absurd (false≢true wrong)

pub true_not : (b : Bool) → ¬ IsTrue b → IsTrue (not b)
true_not true is = absurd (is refl)
true_not false is = refl

-- the negation of a test of something
pub negated : {P : Type 0} {b : Bool} → IsTrue b ↔ P → IsTrue (not b) ↔ (¬ P)
negated {b = b} says = (λ is p. not_true b is (says.1 p), λ none. true_not b (λ is. none (says.0 is)))
