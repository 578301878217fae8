-- Which of many spans shares a place with an earlier one.
use Rattle.std.specs.Prelude.{◌≡◌, ℕ, ◌≤◌, ◌<◌, List, length, map, take, slice_index_or, Option, None, Some, IsPermutation}
use Rattle.macho_spans.specs.Span.{end_of, Shares}
use Rattle.macho_spans.specs.declared.overlap.Numbered.{Numbered}
use Rattle.macho_spans.specs.declared.span.Span.{Span}

-- the spans of a list in order, and for how many there is room
pub record SpanListView : Type 0 where
  pub spans : List Span
  pub capacity : ℕ

-- the span with the index
abbrev pub span_at : List Span → ℕ → Span
span_at spans k = slice_index_or spans k (record { start = 0; len = 0 })

-- the span with the index j shares a place with an earlier one
abbrev pub SharesEarlier : List Span → ℕ → Type 0
SharesEarlier spans j =
    (j < length spans) × ((i : ℕ) × (i < j) × Shares (span_at spans i) (span_at spans j))

-- the span with the index j is the first that shares a place with an earlier one
abbrev pub IsLeastSharing : List Span → ℕ → Type 0
IsLeastSharing spans j = SharesEarlier spans j × ((k : ℕ) → k < j → ¬ SharesEarlier spans k)

-- Of the spans that are not empty, each begins where an earlier one ends, or after that
abbrev pub IsAscending : List Span → Type 0
IsAscending spans =
    (i j : ℕ) → i < j → 0 < (span_at spans i).len → 0 < (span_at spans j).len
    → end_of (span_at spans i) ≤ (span_at spans j).start

-- Of the spans that are not empty, each ends where an earlier one begins, or before that
abbrev pub IsDescending : List Span → Type 0
IsDescending spans =
    (i j : ℕ) → i < j → 0 < (span_at spans i).len → 0 < (span_at spans j).len
    → end_of (span_at spans j) ≤ (span_at spans i).start

-- the spans neither ascend nor descend
abbrev pub IsUnordered : List Span → Type 0
IsUnordered spans = (¬ IsAscending spans) × (¬ IsDescending spans)

-- The span with the index j shares a place with its neighbour, the last one before it that is not empty
abbrev pub SharesWithNeighbour : List Span → ℕ → Type 0
SharesWithNeighbour spans j =
    (j < length spans) × ((i : ℕ) × (i < j) × Shares (span_at spans i) (span_at spans j)
    × ((k : ℕ) → i < k → k < j → ¬ (0 < (span_at spans k).len)))

-- The first n spans neither ascend nor descend, and none of them shares a place with its neighbour
pub record AreMixed (spans : List Span) (n : ℕ) : Type 0 where
  pub among : n ≤ length spans
  pub up : ¬ IsAscending (take n spans)
  pub down : ¬ IsDescending (take n spans)
  pub apart : (j : ℕ) → j < n → ¬ SharesWithNeighbour spans j

-- Spans that are sorted, each with the index that it had

-- the item at the place in a list
abbrev pub item_at : List Numbered → ℕ → Numbered
item_at items p =
    slice_index_or items p (record { span = record { start = 0; len = 0 }; index = 0 })

-- each item has its own place as its index
abbrev pub AreNumbered : List Numbered → Type 0
AreNumbered items = (p : ℕ) → p < length items → (item_at items p).index ≡ p

-- the items come from a list of these spans, in which each had its own place as its index
abbrev pub WereAdded : List Span → List Numbered → Type 0
WereAdded spans items =
    (added : List Numbered) × (map (λ item. item.span) added ≡ spans) × AreNumbered added
    × IsPermutation added items

-- the spans of the items
abbrev pub sorted_spans : List Numbered → List Span
sorted_spans items = map (λ item. item.span) items

-- of spans that are sorted by their starts, the last that begins at the place or before it, or none where
-- each begins after it
abbrev pub IsLastBy : List Span → ℕ → Option Span → Type 0
IsLastBy spans place None = (i : ℕ) → i < length spans → place < (span_at spans i).start
IsLastBy spans place (Some span) =
    (k : ℕ) × (k < length spans) × (span_at spans k ≡ span) × (span.start ≤ place)
    × ((i : ℕ) → k < i → i < length spans → place < (span_at spans i).start)
