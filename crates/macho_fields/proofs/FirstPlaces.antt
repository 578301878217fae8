-- What a walk finds of a rule, item by item, and what the rule answers.
use Rattle.std.proofs.Common.{◌≡◌, ℕ, ◌≤◌, ◌⊎◌, List, [], ◌∷◌, ◌++◌, Contains, Option, None, Some, Result, Ok, Err, IsOk, IsErrAnd, MatchOption, unwrap_or, refl, sym, subst, arith, inl, inr, le_refl}
use Rattle.std.proofs.lemmas.Bool.{false≢true}
use Rattle.std.proofs.lemmas.List.Elements.{Contains-append_left, Contains-append_right, Contains-append_cases}
use Rattle.macho_fields.specs.First.{rank}
use Rattle.macho_fields.specs.FirstPlace.{IsFirstOf, IsLeastPlace}
use Rattle.macho_fields.specs.Layers.{KeptBelow, Continues}
use Rattle.macho_fields.specs.declared.rule.Rule.{Rule}
use Rattle.macho_fields.specs.declared.rule.Break.{Break}
use Rattle.macho_fields.proofs.Layers.{kept_more, least_at}
use Rattle.macho_fields.proofs.Lists.{none_in_nil, only_one, contains_first}

pub first_of_none : {X : Type 0} (place : X → ℕ) (P : X → Type 0) → IsFirstOf place P [] None
first_of_none place P x has = absurd (none_in_nil x has)

-- One item more, which is not before any other

module _ {X : Type 0} (place : X → ℕ) (P : X → Type 0) (items : List X) (x : X) where
  last_or_other : (y : X) → Contains (items ++ x ∷ []) y → Contains items y ⊎ (x ≡ y)
  last_or_other y has = elim (Contains-append_cases items (x ∷ []) y has) [
    | inl before ↦ inl before
    | inr here ↦ inr (only_one x y here)
  ]

  -- it does not have P
  pub first_of_kept : (found : Option ℕ) → ¬ P x → IsFirstOf place P items found → IsFirstOf place P (items ++ x ∷ []) found
  first_of_kept None kept none = λ y has broken. elim (last_or_other y has) [ inl before ↦ none y before broken | inr same ↦ kept (subst P (sym same) broken) ]
  first_of_kept (Some first) kept ((z, has_z, broken_z, at), least) = (
    (z, Contains-append_left items (x ∷ []) z has_z, broken_z, at),
    λ y has broken. elim (last_or_other y has) [ inl before ↦ least y before broken | inr same ↦ absurd (kept (subst P (sym same) broken)) ],
  )

  -- it has P
  pub first_of_broken : (found : Option ℕ) → ((y : X) → Contains items y → place y ≤ place x) → P x → IsFirstOf place P items found
      → IsFirstOf place P (items ++ x ∷ []) (Some (unwrap_or found (place x)))
  first_of_broken None after broken none = (
    (x, Contains-append_right items (x ∷ []) x (contains_first x []), broken, refl),
    λ y has here. elim (last_or_other y has) [ inl before ↦ absurd (none y before here) | inr same ↦ subst (λ z. place x ≤ place z) same (le_refl (place x)) ],
  )
  first_of_broken (Some first) after broken ((z, has_z, broken_z, at), least) = (
    (z, Contains-append_left items (x ∷ []) z has_z, broken_z, at),
    λ y has here. elim (last_or_other y has) [
      | inl before ↦ least y before here
      | inr same ↦ let low : place z ≤ place x = after z has_z in subst (λ w. first ≤ place w) same (omega (arith, low, at))
    ],
  )

-- What is found of all items of a rule

-- the breaks of a rule are the places of the items with P
pub record AreBreaks {X : Type 0} (breaks : ℕ → Type 0) (place : X → ℕ) (P : X → Type 0) (all : List X) : Type 0 where
  pub broken : (x : X) → Contains all x → P x → breaks (place x)
  pub only : (p : ℕ) → breaks p → (x : X) × Contains all x × P x × (place x ≡ p)

pub first_breaks : {X : Type 0} (breaks : ℕ → Type 0) (place : X → ℕ) (P : X → Type 0) (all : List X) (found : Option ℕ)
    → AreBreaks breaks place P all → IsFirstOf place P all found → IsLeastPlace breaks found
first_breaks breaks place P all None are none = λ p broken. let (x, has, here, at) = are.only p broken in none x has here
first_breaks {X = X} breaks place P all (Some first) are ((z, has_z, broken_z, at), least) =
    (subst breaks at (are.broken z has_z broken_z), λ p broken. low p (are.only p broken))
  where
    low : (p : ℕ) → (x : X) × Contains all x × P x × (place x ≡ p) → first ≤ p
    low p (x, has, here, same) = subst (λ q. first ≤ q) same (least x has here)

-- the answer of the rule
pub first_judged : {T : Type 0} (breaks : Rule → ℕ → Type 0) (r : Rule) (found : Option ℕ) (result : Result T Break) → KeptBelow breaks (rank r) → IsLeastPlace (breaks r) found
    → MatchOption found (IsOk result) (λ place. IsErrAnd result (λ b. (b.rule ≡ r) × (b.place ≡ place))) → Continues breaks r result
first_judged breaks r None (Ok x) below none ok = kept_more breaks r below none
first_judged breaks r None (Err b) below none ok = absurd (false≢true ok)
first_judged breaks r (Some first) (Ok x) below found err = absurd err
first_judged breaks r (Some first) (Err b) below (broken, least) (named, at) =
    least_at breaks r b below (named, subst (breaks r) (sym at) broken, λ p here. let low : first ≤ p = least p here in omega (arith, at, low))
