-- A number that is found where there is one with Q, and whether it has R.
use Rattle.std.proofs.Common.{◌≡◌, ◌↔◌, ℕ, Bool, false, Option, None, Some, IsTrue, sym, ◌∙◌, subst}
use Rattle.std.proofs.lemmas.Bool.{false≢true}
use Rattle.std.proofs.lemmas.Option.{none-some, same_Some}

module _ (Q R : ℕ → Type 0) (found : Option ℕ) (says : (x : ℕ) → (found ≡ Some x) ↔ Q x) where
  pub some_has : (x : ℕ) → found ≡ Some x → (b : Bool) → IsTrue b ↔ R x → IsTrue b ↔ ((y : ℕ) × Q y × R y)
  some_has x is b here = (
    λ has. (x, (says x).0 is, here.0 has),
    λ (y, one, has). here.1 (subst R (same_Some y x (sym ((says y).1 one) ∙ is)) has),
  )

  pub some_is : (x : ℕ) → found ≡ Some x → (y : ℕ) (b : Bool) → IsTrue b ↔ (x ≡ y) → IsTrue b ↔ Q y
  some_is x is y b here = (λ same. subst Q (here.0 same) ((says x).0 is), λ one. here.1 (same_Some x y (sym is ∙ (says y).1 one)))

  pub none_is : found ≡ None → (y : ℕ) → IsTrue false ↔ Q y
  none_is is y = (λ wrong. absurd (false≢true wrong), λ one. absurd (none-some y (sym is ∙ (says y).1 one)))

  pub none_has : found ≡ None → IsTrue false ↔ ((y : ℕ) × Q y × R y)
  none_has is = (λ wrong. absurd (false≢true wrong), λ (y, one, has). absurd (none-some y (sym is ∙ (says y).1 one)))
