-- Spans that share no place, each with a tag, and how many probes a search among them makes.
use Rattle.std.specs.Prelude.{◌≡◌, ℕ, ◌+◌, ◌%◌, ◌^◌, ◌≤◌, ◌<◌, ◌⊎◌, List, [], ◌∷◌, ◌++◌, length, All, AllPairs, Any, IsPermutation}
use Rattle.std.specs.Int.Digits.{digits_of}
use Rattle.macho_spans.specs.Span.{end_of, Holds, Shares}
use Rattle.macho_spans.specs.declared.span.Span.{Span}

-- The pairs of a span and its tag in order, for how many there is room, how many probes the last call
-- made, and how many tests of one pair. All calls made so many probes and so many tests, which are
-- counted on and never set.
pub record SpansView : Type 0 where
  pub pairs : List (Span × ℕ)
  pub capacity : ℕ
  pub probes : ℕ
  pub tests : ℕ
  pub all_probes : ℕ
  pub all_tests : ℕ

-- a count that is 0 again after 2^64 - 1 rose by so many
abbrev pub RoseBy : ℕ → ℕ → ℕ → Type 0
RoseBy before more after = after % 2 ^ 64 ≡ (before + more) % 2 ^ 64

-- the span has a place, and its last one is below 2^64
abbrev pub IsPlaced : Span → Type 0
IsPlaced span = (0 < span.len) × (end_of span ≤ 2 ^ 64)

-- The pairs are sorted by the starts of their spans, and no two spans share a place.
pub record AreSorted (pairs : List (Span × ℕ)) : Type 0 where
  pub placed : All (λ pair. IsPlaced pair.0) pairs
  pub rising : AllPairs (λ pair later. pair.0.start < later.0.start) pairs
  pub apart : AllPairs (λ pair later. ¬ Shares pair.0 later.0) pairs

-- the span of some pair shares a place with the span
abbrev pub SharesWithOne : List (Span × ℕ) → Span → Type 0
SharesWithOne pairs span = Any (λ pair. Shares pair.0 span) pairs

-- the span of some pair holds the place
abbrev pub HoldsInOne : List (Span × ℕ) → ℕ → Type 0
HoldsInOne pairs place = Any (λ pair. Holds pair.0 place) pairs

-- Some pairs were kept before, and others come, one after the other. Each is kept where it shares no
-- place with a pair that is kept by then. These are all that are kept in the end.
abbrev pub KeepsInTurn : List (Span × ℕ) → List (Span × ℕ) → List (Span × ℕ) → Type 0
KeepsInTurn before [] kept = kept ≡ before
KeepsInTurn before (pair ∷ pairs) kept =
    (SharesWithOne before pair.0 × KeepsInTurn before pairs kept)
    ⊎ ((¬ SharesWithOne before pair.0) × KeepsInTurn (before ++ pair ∷ []) pairs kept)

-- the pairs that are held are those that are kept of all that came, in whatever order they are held
abbrev pub AreKept : List (Span × ℕ) → List (Span × ℕ) → Type 0
AreKept pairs held = (kept : List (Span × ℕ)) × KeepsInTurn [] pairs kept × IsPermutation kept held

-- how many binary digits a number has, and none for 0
unfoldable pub digits : ℕ → ℕ
digits n = length (digits_of 2 n)

-- A search among n spans makes at least one probe where there is a span, and at most as many as n has
-- binary digits.
pub record IsProbeCount (n probes : ℕ) : Type 0 where
  pub some : 0 < n → 0 < probes
  pub most : probes ≤ digits n
