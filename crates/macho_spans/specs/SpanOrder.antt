-- What the order of spans shows about spans that share a place. Each span has a tag, which names it in
-- the answer. Empty spans share nothing.
use Rattle.std.specs.Prelude.{◌≡◌, ℕ, ◌≤◌, ◌<◌, List, map, slice_get, Some}
use Rattle.macho_spans.specs.Overlap.{span_at, SharesEarlier, IsLeastSharing, IsAscending, IsDescending, AreMixed}
use Rattle.macho_spans.specs.Span.{end_of}
use Rattle.macho_spans.specs.declared.span.Span.{Span}
use Rattle.macho_spans.specs.declared.span_order.Sharing.{Sharing}
use Rattle.macho_spans.specs.declared.span_order.Sharing.TheVariants as sharing
use Rattle.macho_spans.specs.declared.span_order.Trend.{Trend}
use Rattle.macho_spans.specs.declared.span_order.Trend.TheVariants as trend
use Rattle.macho_spans.specs.declared.span_order.SpanOrder.{SpanOrder}

abbrev pub spans_in : List (Span × ℕ) → List Span
spans_in pairs = map (λ pair. pair.0) pairs

abbrev pub tags_in : List (Span × ℕ) → List ℕ
tags_in pairs = map (λ pair. pair.1) pairs

-- What the order shows. The first span that shares a place with its neighbour is answered, unless the
-- spans before it neither ascend nor descend

abbrev pub IsSharingOf : List (Span × ℕ) → Sharing → Type 0
IsSharingOf pairs sharing.None = (j : ℕ) → ¬ SharesEarlier (spans_in pairs) j
IsSharingOf pairs (sharing.First tag) =
    (j : ℕ) × IsLeastSharing (spans_in pairs) j × (slice_get (tags_in pairs) j ≡ Some tag)
IsSharingOf pairs sharing.Unknown =
    (¬ IsAscending (spans_in pairs)) × (¬ IsDescending (spans_in pairs)) × ((n : ℕ) × AreMixed (spans_in pairs) n)

-- What is kept while spans are noted

-- The spans run to the last one: each that is not empty is before each later one, and the
-- last reaches as far as each
pub record RunsTo (IsBefore IsWithin : Span → Span → Type 0) (spans : List Span) (last : Span)
    : Type 0 where
  pub each : (i j : ℕ) → i < j → 0 < (span_at spans i).len → 0 < (span_at spans j).len
      → IsBefore (span_at spans i) (span_at spans j)
  pub among : (j : ℕ) × (span_at spans j ≡ last)
  pub filled : 0 < last.len
  pub edge : (i : ℕ) → 0 < (span_at spans i).len → IsWithin (span_at spans i) last

-- up, or down
abbrev pub Ascends : List Span → Span → Type 0
Ascends spans last = RunsTo (λ a b. end_of a ≤ b.start) (λ a b. end_of a ≤ end_of b) spans last

abbrev pub Descends : List Span → Span → Type 0
Descends spans last = RunsTo (λ a b. end_of b ≤ a.start) (λ a b. b.start ≤ a.start) spans last

abbrev pub IsTrend : List Span → List ℕ → Span → Trend → Type 0
IsTrend spans tags last trend.Empty = (i : ℕ) → ¬ (0 < (span_at spans i).len)
IsTrend spans tags last trend.Single = Ascends spans last × Descends spans last
IsTrend spans tags last trend.Ascending = Ascends spans last × (¬ IsDescending spans)
IsTrend spans tags last trend.Descending = Descends spans last × (¬ IsAscending spans)
IsTrend spans tags last (trend.Sharing tag) =
    (j : ℕ) × IsLeastSharing spans j × (slice_get tags j ≡ Some tag)
IsTrend spans tags last trend.Unordered = (¬ IsAscending spans) × (¬ IsDescending spans) × ((n : ℕ) × AreMixed spans n)

-- the order is the spans'
abbrev pub IsOrderOf : List (Span × ℕ) → SpanOrder → Type 0
IsOrderOf pairs noted = IsTrend (spans_in pairs) (tags_in pairs) noted.last noted.trend
