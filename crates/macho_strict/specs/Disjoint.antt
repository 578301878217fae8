-- Spans by their starts, which share no place.
use Rattle.std.specs.Prelude.{◌≡◌, ℕ, ◌≤◌, ◌<◌, List, length, Option, None, Some, Contains}
use Rattle.macho_spans.specs.Overlap.{span_at}
use Rattle.macho_spans.specs.Span.{end_of, Holds}
use Rattle.macho_spans.specs.declared.span.Span.{Span}

-- each of the spans ends where a later one begins, or before that
abbrev pub AreDisjoint : List Span → Type 0
AreDisjoint spans =
    (i j : ℕ) → i < j → j < length spans → end_of (span_at spans i) ≤ (span_at spans j).start

-- the one of the spans that holds the place, or none where no span does
abbrev pub IsHolding : List Span → ℕ → Option Span → Type 0
IsHolding spans place None = (i : ℕ) → ¬ Holds (span_at spans i) place
IsHolding spans place (Some span) =
    Contains spans span × Holds span place
    × ((other : Span) → Contains spans other → Holds other place → other ≡ span)
