-- What holds of what an option has.
use Rattle.std.specs.Prelude.{IsSome}
use Rattle.std.specs.Option.{option_map}
use Rattle.std.proofs.Common.{◌≡◌, Option, Some, None, IsSomeAnd, refl, sym, subst}

pub some_of : {X : Type 0} (P : X → Type 0) (o : Option X) → IsSomeAnd o P → (x : X) × (o ≡ Some x) × P x
some_of P None h = absurd h
some_of P (Some x) h = (x, refl, h)

pub of_some : {X : Type 0} (P : X → Type 0) (o : Option X) (x : X) → o ≡ Some x → P x → IsSomeAnd o P
of_some P o x is h = subst (λ p. IsSomeAnd p P) (sym is) h

-- what holds of it holds of what it has
pub some_has : {X : Type 0} (P : X → Type 0) (o : Option X) (x : X) → o ≡ Some x → IsSomeAnd o P → P x
some_has P o x is h = subst (λ p. IsSomeAnd p P) is h

pub of_none : {X : Type 0} (P : X → Type 0) (o : Option X) → o ≡ None → ¬ IsSomeAnd o P
of_none P o is h = subst (λ p. IsSomeAnd p P) is h

pub some_or_not_none : {X : Type 0} (o : Option X) → ¬ (o ≡ None) → IsSome o
some_or_not_none None other = absurd (other refl)
some_or_not_none (Some x) other = refl

-- what a mapped option has comes from something
pub some_mapped : {X Y : Type 0} (f : X → Y) (o : Option X) → IsSome (option_map f o) → IsSome o
some_mapped f None h = h
some_mapped f (Some x) h = refl
