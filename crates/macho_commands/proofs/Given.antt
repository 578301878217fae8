-- A value that is given where it has P, and at no other.
use Rattle.std.proofs.Common.{◌≡◌, ◌↔◌, ◌∙◌, ℕ, Bool, true, false, Option, None, Some, refl, sym, subst, ap}
use Rattle.std.specs.Prelude.{IsTrue, IfNone, not}
use Rattle.std.specs.Option.{is_some}
use Rattle.std.proofs.lemmas.Option.{none-some}
use Rattle.std.proofs.lemmas.Bool.{true≢false, false≢true}

-- the value of an option
pub same_value : (a b : ℕ) → Some a ≡ Some b → a ≡ b
same_value a b is = ap value is
  where
    value : Option ℕ → ℕ
    value None = 0
    value (Some x) = x

-- what is given has P, and nothing else has
abbrev pub Gives : (ℕ → Type 0) → Option ℕ → Type 0
Gives P found = (x : ℕ) → (found ≡ Some x) ↔ P x

pub none_given : (P : ℕ → Type 0) (found : Option ℕ) → found ≡ None → ((x : ℕ) → ¬ P x) → Gives P found
none_given P found is none x = (λ wrong. absurd (none-some x (sym is ∙ wrong)), λ here. absurd (none x here))

pub some_given : (P : ℕ → Type 0) (found : Option ℕ) (x : ℕ) → found ≡ Some x → P x → ((y : ℕ) → P y → x ≡ y) → Gives P found
some_given P found x is here one y = (λ same. subst P (same_value x y (sym is ∙ same)) here, λ there. is ∙ ap Some (one y there))

-- nothing has P where none is given
pub gives_none : (P : ℕ → Type 0) (found : Option ℕ) → found ≡ None → Gives P found → (x : ℕ) → ¬ P x
gives_none P found is gives x here = none-some x (sym is ∙ (gives x).1 here)

-- what has Q of what has P
pub given_both : (P Q : ℕ → Type 0) (found : Option ℕ) → Gives P found → ((x : ℕ) → P x ↔ Q x) → Gives Q found
given_both P Q found gives same x = (λ is. (same x).0 ((gives x).0 is), λ here. (gives x).1 ((same x).1 here))

-- whether nothing has P, as the test reports it
pub none_is_bad : (P : ℕ → Type 0) (found : Option ℕ) → Gives P found → (test : Bool) → is_some found ≡ not test → IsTrue test ↔ (¬ ((x : ℕ) × P x))
none_is_bad P None gives true is = (λ _ (x, here). none-some x ((gives x).1 here), λ _. refl)
none_is_bad P None gives false is = absurd (false≢true is)
none_is_bad P (Some x) gives true is = absurd (true≢false is)
none_is_bad P (Some x) gives false is = (λ wrong. absurd (false≢true wrong), λ none. absurd (none (x, (gives x).0 refl)))

pub if_none : {X P : Type 0} (found : Option X) → P → IfNone found P
if_none None here = here
if_none (Some x) here = tt
