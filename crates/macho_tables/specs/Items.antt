-- Rules of items that are numbered from 0 on.
use Rattle.std.specs.Prelude.{◌≡◌, ℕ, ◌<◌, Option, MatchOption}

-- one of so many items has P, and the place is its own
abbrev pub AtItem : (ℕ → ℕ) → ℕ → (ℕ → Type 0) → ℕ → Type 0
AtItem place_of count P place = (k : ℕ) × (k < count) × (place ≡ place_of k) × P k

-- a rule of one of so many items, at a place
abbrev pub OfItem : ℕ → (ℕ → ℕ → Type 0) → ℕ → Type 0
OfItem count Rule place = (k : ℕ) × (k < count) × Rule k place

-- what is found is the first of so many items with P, and none where no item has P
abbrev pub IsFirstItem : ℕ → (ℕ → Type 0) → Option ℕ → Type 0
IsFirstItem count P found =
    MatchOption found ((k : ℕ) → k < count → ¬ P k)
    (λ first. (first < count) × P first × ((k : ℕ) → k < first → ¬ P k))
