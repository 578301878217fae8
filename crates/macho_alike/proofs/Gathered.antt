-- Lists to which items are added, one walk after the other.
use Rattle.std.proofs.Common.{◌≡◌, ◌↔◌, ◌⊎◌, ◌∙◌, ℕ, ◌+◌, ◌<◌, List, [], ◌∷◌, ◌++◌, length, get_or, IfOk, Contains, sym, subst, arith, inl, inr}
use Rattle.std.specs.Prelude.{Result, Ok, Err}
use Rattle.std.proofs.lemmas.Bool.{cases_eq}
use Rattle.std.proofs.lemmas.List.{get_or_default}
use Rattle.std.proofs.lemmas.List.Elements.{Contains-append_left, Contains-append_right, Contains-append_cases, Contains-get_or}
use Rattle.macho_fields.proofs.Lists.{none_in_nil, only_one, contains_first, contains_later, first_or_later}
use Rattle.macho_alike.specs.Bounds.{WereGathered}

pub gathered_none : {X : Type 0} (P : X → Type 0) (old : List X) → ((x : X) → ¬ P x) → WereGathered P old old
gathered_none P old none x = (λ has. inl has, λ either. elim either [ inl was ↦ was | inr p ↦ absurd (none x p) ])

pub gathered_same : {X : Type 0} (P Q : X → Type 0) (old new : List X) → ((x : X) → P x ↔ Q x) → WereGathered P old new → WereGathered Q old new
gathered_same P Q old new same added x = (
  λ has. elim ((added x).0 has) [ inl was ↦ inl was | inr p ↦ inr ((same x).0 p) ],
  λ either. (added x).1 (elim either [ inl was ↦ inl was | inr q ↦ inr ((same x).1 q) ]),
)

-- one was
pub gathered_one : {X : Type 0} (P : X → Type 0) (old new : List X) (one : X) → new ≡ old ++ one ∷ [] → ((x : X) → P x ↔ (one ≡ x)) → WereGathered P old new
gathered_one {X = X} P old new one is says x = (
  λ has. elim (Contains-append_cases old (one ∷ []) x (subst (λ (xs : List X). Contains xs x) is has)) [
    | inl early ↦ inl early
    | inr last ↦ inr ((says x).1 (only_one one x last))
  ],
  λ either. subst (λ (xs : List X). Contains xs x) (sym is) (elim either [
    | inl was ↦ Contains-append_left old (one ∷ []) x was
    | inr p ↦ subst (λ (y : X). Contains (old ++ one ∷ []) y) ((says x).0 p) (Contains-append_right old (one ∷ []) one (contains_first one []))
  ]),
)

pub gathered_both : {X : Type 0} (P Q : X → Type 0) (old some new : List X) → WereGathered P old some → WereGathered Q some new → WereGathered (λ x. P x ⊎ Q x) old new
gathered_both P Q old some new first second x = (
  λ has. elim ((second x).0 has) [
    | inl early ↦ elim ((first x).0 early) [ inl was ↦ inl was | inr p ↦ inr (inl p) ]
    | inr q ↦ inr (inr q)
  ],
  λ either. (second x).1 (elim either [
    | inl was ↦ inl ((first x).1 (inl was))
    | inr these ↦ elim these [ inl p ↦ inl ((first x).1 (inr p)) | inr q ↦ inr q ]
  ]),
)

-- to an empty list
pub gathered_all : {X : Type 0} (P : X → Type 0) (old new : List X) → old ≡ [] → WereGathered P old new → (x : X) → Contains new x ↔ P x
gathered_all {X = X} P old new is added x = (
  λ has. elim ((added x).0 has) [ inl was ↦ absurd (none_in_nil x (subst (λ (xs : List X). Contains xs x) is was)) | inr p ↦ p ],
  λ p. (added x).1 (inr p),
)

pub if_ok_same : {X R E : Type 0} (P Q : X → Type 0) (old new : List X) (r : Result R E) → ((x : X) → P x ↔ Q x) → IfOk r (λ _. WereGathered P old new) → IfOk r (λ _. WereGathered Q old new)
if_ok_same P Q old new (Ok x) same added = gathered_same P Q old new same added
if_ok_same P Q old new (Err e) same added = tt

-- Walks: those with All that are not added have Left

abbrev pub IsWalkedTo : {X : Type 0} → (X → Type 0) → (X → Type 0) → List X → List X → Type 0
IsWalkedTo {X = X} All Left old new = (x : X) → (Contains new x ⊎ Left x) ↔ (Contains old x ⊎ All x)

pub walk_start : {X : Type 0} (All : X → Type 0) (old : List X) → IsWalkedTo All All old old
walk_start All old x = (λ either. either, λ either. either)

pub walk_step : {X : Type 0} (All Left Here Rest : X → Type 0) (old some new : List X) → IsWalkedTo All Left old some → ((x : X) → Left x ↔ (Here x ⊎ Rest x)) → WereGathered Here some new
    → IsWalkedTo All Rest old new
walk_step All Left Here Rest old some new walk splits added x = (
  λ either. (walk x).0 (elim either [
    | inl has ↦ elim ((added x).0 has) [ inl was ↦ inl was | inr here ↦ inr ((splits x).1 (inl here)) ]
    | inr rest ↦ inr ((splits x).1 (inr rest))
  ]),
  λ either. elim ((walk x).1 either) [
    | inl was ↦ inl ((added x).1 (inl was))
    | inr left ↦ elim ((splits x).0 left) [ inl here ↦ inl ((added x).1 (inr here)) | inr rest ↦ inr rest ]
  ],
)

pub walk_end : {X : Type 0} (All Left : X → Type 0) (old new : List X) → IsWalkedTo All Left old new → ((x : X) → ¬ Left x) → WereGathered All old new
walk_end All Left old new walk none x = (
  λ has. (walk x).0 (inl has),
  λ either. elim ((walk x).1 either) [ inl has ↦ has | inr left ↦ absurd (none x left) ],
)

-- of the items of a list
abbrev pub OfSome : {X Y : Type 0} → (Y → X → Type 0) → List Y → X → Type 0
OfSome {Y = Y} P ys x = (y : Y) × Contains ys y × P y x

pub some_next : {X Y : Type 0} (P : Y → X → Type 0) (left rest : List Y) (y : Y) → left ≡ y ∷ rest → (x : X) → OfSome P left x ↔ (P y x ⊎ OfSome P rest x)
some_next {X = X} {Y = Y} P left rest y is x = (
  λ (z, has, p). elim (first_or_later y z rest (subst (λ (zs : List Y). Contains zs z) is has)) [
    | inl same ↦ inl (subst (λ (w : Y). P w x) (sym same) p)
    | inr later ↦ inr (z, later, p)
  ],
  λ either. elim either [
    | inl p ↦ (y, subst (λ (zs : List Y). Contains zs y) (sym is) (contains_first y rest), p)
    | inr (z, has, p) ↦ (z, subst (λ (zs : List Y). Contains zs z) (sym is) (contains_later y z rest has), p)
  ],
)

pub some_none : {X Y : Type 0} (P : Y → X → Type 0) (left : List Y) → left ≡ [] → (x : X) → ¬ OfSome P left x
some_none {X = X} {Y = Y} P left is x (y, has, p) = none_in_nil y (subst (λ (ys : List Y). Contains ys y) is has)

-- of the numbers below one
abbrev pub OfBelow : {X : Type 0} → (ℕ → X → Type 0) → ℕ → X → Type 0
OfBelow P n x = (k : ℕ) × (k < n) × P k x

pub below_start : {X : Type 0} (P : ℕ → X → Type 0) (old : List X) → WereGathered (OfBelow P 0) old old
below_start P old = gathered_none (OfBelow P 0) old (λ x (k, less, p). absurd (omega (arith, less)))

pub below_more : {X : Type 0} (P : ℕ → X → Type 0) (n : ℕ) (old some new : List X) → WereGathered (OfBelow P n) old some → WereGathered (P n) some new → WereGathered (OfBelow P (n + 1)) old new
below_more {X = X} P n old some new first second =
    gathered_same (λ x. OfBelow P n x ⊎ P n x) (OfBelow P (n + 1)) old new (λ x. (
      λ either. elim either [ inl (k, less, p) ↦ (k, omega (arith, less), p) | inr p ↦ (n, omega arith, p) ],
      λ (k, less, p). elim (cases_eq k n) [ inl same ↦ inr (subst (λ (m : ℕ). P m x) same p) | inr apart ↦ inl (k, omega (arith, less, apart), p) ],
    )) (gathered_both (OfBelow P n) (P n) old some new first second)

-- the items of a list are those below its length
pub below_listed : {X Y : Type 0} (P : Y → X → Type 0) (ys : List Y) (d : Y) (x : X) → OfBelow (λ (k : ℕ). P (get_or ys k d)) (length ys) x ↔ OfSome P ys x
below_listed {X = X} {Y = Y} P ys d x = (
  λ (k, less, p). (get_or ys k d, Contains-get_or ys k d less, p),
  λ (y, (k, less, at), p). (k, less, subst (λ (z : Y). P z x) (sym at ∙ sym (get_or_default ys k d y less)) p),
)
