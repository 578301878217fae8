-- The order of judgment of an image: its rules come one after the other.
use Rattle.std.specs.Prelude.{◌≡◌, ℕ, ◌+◌, List, Option, None, MatchOption, Result, MatchResult, IsOk, IsErrAnd}
use Rattle.macho_fields.specs.Rules.{BreaksImage}
use Rattle.macho_fields.specs.First.{rank}
use Rattle.macho_fields.specs.Layers.{KeptBelow, Continues}
use Rattle.macho_fields.specs.declared.rule.Rule.{Rule}
use Rattle.macho_fields.specs.declared.rule.Break.{Break}
use Rattle.macho_rules.specs.Verdict.{IsRefusalOf}
use Rattle.macho_rules.specs.declared.refusal.Refusal.{Refusal}

-- an image keeps the rules that come before r
abbrev pub KeptBefore : List ℕ → Rule → Type 0
KeptBefore image r = KeptBelow (BreaksImage image None) (rank r)

-- an answer reports that an image keeps the rules up to r, and otherwise what it breaks first of all
abbrev pub JudgesUpTo : {T : Type 0} → List ℕ → Rule → Result T Break → Type 0
JudgesUpTo image r answer = Continues (BreaksImage image None) r answer

-- an answer reports that the rules up to r are unbroken, and otherwise what is broken first of all,
-- or that there was no memory, which it reports only if CanRunOut holds
abbrev pub ContinuesWithMemory : {T : Type 0} → (Rule → ℕ → Type 0) → Rule → Type 0 → Result T Refusal → Type 0
ContinuesWithMemory breaks r CanRunOut answer =
    MatchResult answer (λ _. KeptBelow breaks (rank r + 1)) (IsRefusalOf breaks CanRunOut)

-- an answer reports a break of the rule at the place, and none without a place
abbrev pub AnswersAt : {T : Type 0} → Rule → Option ℕ → Result T Break → Type 0
AnswersAt r place answer =
    MatchOption place (IsOk answer)
    (λ at. IsErrAnd answer (λ b. (b.rule ≡ r) × (b.place ≡ at)))
