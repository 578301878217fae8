-- What one layer decides: which of its rules are broken, and which of them first.
use Rattle.std.specs.Prelude.{◌≡◌, ℕ, ◌+◌, ◌≤◌, ◌<◌, ◌⊎◌, Result, MatchResult, IfErr}
use Rattle.macho_fields.specs.First.{rank}
use Rattle.macho_fields.specs.declared.rule.Rule.{Rule}
use Rattle.macho_fields.specs.declared.rule.Break.{Break}

-- b is the first of what is broken: the first rule, and of that rule the least place
abbrev pub IsLeast : (Rule → ℕ → Type 0) → Break → Type 0
IsLeast breaks b =
    breaks b.rule b.place
    × ((r : Rule) (place : ℕ) → breaks r place
    → ¬ ((rank r < rank b.rule) ⊎ ((rank r ≡ rank b.rule) × (place < b.place))))

abbrev pub NothingBreaks : (Rule → ℕ → Type 0) → Type 0
NothingBreaks breaks = (r : Rule) (place : ℕ) → ¬ breaks r place

-- an answer reports whether a layer is unbroken, and otherwise what is broken first
abbrev pub Decides : {T : Type 0} → (Rule → ℕ → Type 0) → Result T Break → Type 0
Decides breaks answer = MatchResult answer (λ _. NothingBreaks breaks) (IsLeast breaks)

-- the rules before a rank are unbroken
abbrev pub KeptBelow : (Rule → ℕ → Type 0) → ℕ → Type 0
KeptBelow breaks n = (r : Rule) (place : ℕ) → rank r < n → ¬ breaks r place

-- an answer reports that the rules up to r are unbroken, and otherwise what is broken first of all
abbrev pub Continues : {T : Type 0} → (Rule → ℕ → Type 0) → Rule → Result T Break → Type 0
Continues breaks r answer = MatchResult answer (λ _. KeptBelow breaks (rank r + 1)) (IsLeast breaks)

-- a rule up to r is broken
abbrev pub BreaksUpTo : (Rule → ℕ → Type 0) → Rule → Type 0
BreaksUpTo breaks r = (other : Rule) × (place : ℕ) × (rank other ≤ rank r) × breaks other place

-- an answer reports no rule after r
abbrev pub StopsAt : {T : Type 0} → Rule → Result T Break → Type 0
StopsAt r answer = IfErr answer (λ b. rank b.rule ≤ rank r)
