-- The first place at which a rule is broken, among the items that a walk has passed.
use Rattle.std.specs.Prelude.{◌≡◌, ◌⊎◌, ℕ, ◌≤◌, List, Contains, Option, Some, MatchOption, unwrap_or}

-- what is found is the place of the first of the items with P: the least. None is found where no
-- item has P
abbrev pub IsFirstOf : {X : Type 0} → (X → ℕ) → (X → Type 0) → List X → Option ℕ → Type 0
IsFirstOf {X} place P items found =
    MatchOption found ((x : X) → Contains items x → ¬ P x)
    (λ first. ((x : X) × Contains items x × P x × (place x ≡ first))
    × ((x : X) → Contains items x → P x → first ≤ place x))

-- the place is noted where the rule is broken there, if none was noted before
abbrev pub IsNoted : Type 0 → ℕ → Option ℕ → Option ℕ → Type 0
IsNoted broken place old new =
    (broken × (new ≡ Some (unwrap_or old place))) ⊎ ((¬ broken) × (new ≡ old))

-- what is found is the least place at which a rule is broken, and None where it is broken nowhere
abbrev pub IsLeastPlace : (ℕ → Type 0) → Option ℕ → Type 0
IsLeastPlace breaks found =
    MatchOption found ((place : ℕ) → ¬ breaks place)
    (λ least. breaks least × ((place : ℕ) → breaks place → least ≤ place))
