-- What only the contracts of private functions and proofs need.
use Rattle.std.specs.Prelude.{◌≡◌, ℕ, ◌+◌, ◌≤◌, ◌<◌, List, length, slice_index_or}
use Rattle.macho_spans.specs.Overlap.{item_at}
use Rattle.macho_spans.specs.Span.{end_of, Shares}
use Rattle.macho_spans.specs.declared.span.Span.{Span}
use Rattle.macho_spans.specs.Spans.{IsProbeCount, RoseBy}
use Rattle.macho_spans.specs.declared.overlap.Numbered.{Numbered}
use Rattle.macho_spans.specs.declared.spans.pairs.Count.{Count}
use Rattle.macho_spans.specs.declared.spans.pairs.CountedPairs.{CountedPairs}

-- so many of the sorted pairs start at the place or before it
pub record StartBy (pairs : List (Span × ℕ)) (place count : ℕ) : Type 0 where
  pub among : count ≤ length pairs
  pub before : (k : ℕ) (d : Span × ℕ) → k < count → (slice_index_or pairs k d).0.start ≤ place
  pub after : (k : ℕ) (d : Span × ℕ) → count ≤ k → k < length pairs
      → place < (slice_index_or pairs k d).0.start

-- a call begins, and nothing is counted for it
pub record IsBegun (before after : Count) : Type 0 where
  pub call : after.call ≡ 0
  pub all : after.all ≡ before.all

-- one more is counted
pub record IsRaised (before after : Count) : Type 0 where
  pub call : after.call ≡ before.call + 1
  pub all : RoseBy before.all 1 after.all

-- A call searched once among the pairs, which it left as they were, and tested at most so many of them.
-- What it made is what both totals rose by.
pub record IsOneSearch (before after : CountedPairs) (most_tests : ℕ) : Type 0 where
  pub same : after.pairs ≡ before.pairs
  pub probes : IsProbeCount (length before.pairs.items) after.probes.call
  pub all_probes : RoseBy before.probes.all after.probes.call after.probes.all
  pub tests : after.tests.call ≤ most_tests
  pub all_tests : RoseBy before.tests.all after.tests.call after.tests.all

-- two of the first high items share a place, and their indices are below count
abbrev pub PairBelow : List Numbered → ℕ → ℕ → Type 0
PairBelow items high count =
    (q : ℕ) × (p : ℕ) × (p < q) × (q < high)
    × ((item_at items p).index < count) × ((item_at items q).index < count)
    × Shares (item_at items p).span (item_at items q).span

-- Of the first high items, those that have a place and an index below count are passed. They share
-- nothing, and the last place of any of them is below end, which is 0 without any.
pub record ArePassedBelow (items : List Numbered) (high count end : ℕ) : Type 0 where
  pub ends : (p : ℕ) → p < high → (item_at items p).index < count → 0 < (item_at items p).span.len
      → end_of (item_at items p).span ≤ end
  pub last : 0 < end
      → (p : ℕ) × (p < high) × ((item_at items p).index < count) × (end_of (item_at items p).span ≡ end)
  pub apart : ¬ PairBelow items high count

-- no two items with indices below low share a place, and some two with indices below high do
pub record AreHalved (items : List Numbered) (low high : ℕ) : Type 0 where
  pub order : low < high
  pub among : high ≤ length items
  pub apart : ¬ PairBelow items (length items) low
  pub share : PairBelow items (length items) high
