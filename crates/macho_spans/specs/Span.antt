-- What the tests of a span mean: Holds and Shares by the places of a span, IsInside by its ends.
use Rattle.std.specs.Prelude.{ℕ, ◌+◌, ◌≤◌, ◌<◌}
use Rattle.macho_spans.specs.declared.span.Span.{Span}

-- a place is one of the len places from start on
abbrev pub Covers : ℕ → ℕ → ℕ → Type 0
Covers start len place = (start ≤ place) × (place < start + len)

-- the first place past the span
abbrev pub end_of : Span → ℕ
end_of span = span.start + span.len

-- the place is one of the places of the span
abbrev pub Holds : Span → ℕ → Type 0
Holds span place = Covers span.start span.len place

-- the one span begins and ends within the other, whether or not it is empty
abbrev pub IsInside : Span → Span → Type 0
IsInside span other = (other.start ≤ span.start) × (end_of span ≤ end_of other)

-- some place is in both spans
abbrev pub Shares : Span → Span → Type 0
Shares span other = (place : ℕ) × Holds span place × Holds other place
