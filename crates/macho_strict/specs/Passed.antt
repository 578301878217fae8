-- Spans that were passed by their starts: in their own order, or sorted.
use Rattle.std.specs.Prelude.{◌≡◌, ◌-◌, ◌^◌, ◌↔◌, ℕ, nat_lt, min, length, List, filter, Option, Some, None, IsPermutation}
use Rattle.std.specs.List.Sorted.{IsNonDecreasingBy}
use Rattle.macho_spans.specs.Overlap.{IsAscending, SharesEarlier, sorted_spans}
use Rattle.macho_spans.specs.declared.overlap.Numbered.{Numbered}
use Rattle.macho_spans.specs.declared.span.Span.{Span}
use Rattle.macho_strict.specs.Gaps.{ArePassed, ComeByStart, IsFree}
use Rattle.macho_strict.specs.declared.gaps.CountedGaps.{CountedGaps}
use Rattle.macho_strict.specs.declared.gaps.Gaps.{Gaps}
use Rattle.macho_strict.specs.declared.gaps.Wanted.{Wanted}
use Rattle.macho_strict.specs.declared.gaps.Wanted.TheVariants as wanted

-- the spans that have a place
abbrev pub occupied : List Span → List Span
occupied spans = filter (λ span. nat_lt 0 span.len) spans

-- each place lies in none of the spans, or in none of the others either
abbrev pub CoverSame : List Span → List Span → Type 0
CoverSame spans others = (place : ℕ) → IsFree spans place ↔ IsFree others place

-- these spans were passed, and those that have a place were counted
abbrev pub AreCounted : Wanted → List ℕ → List Span → CountedGaps → Type 0
AreCounted wanted bytes spans counted =
    ArePassed wanted bytes spans counted.gaps
    × (counted.count ≡ min (length (occupied spans)) (2 ^ 64 - 1))

-- the gaps are those between the spans of an image, which were passed in some order
pub record ArePassedFor (image : List ℕ) (spans : List Span) (gaps : Gaps) : Type 0 where
  pub ordered : List Span
  pub same : CoverSame spans ordered
  pub passed : ArePassed wanted.NonZero image ordered gaps
  -- if they ascend in that order, no two share a byte
  pub apart : IsAscending ordered → (j : ℕ) → ¬ SharesEarlier spans j
  -- and they do if they ascend in their own
  pub ascend : IsAscending spans → IsAscending ordered

-- the items belong to the spans that have a place, sorted by their starts
abbrev pub IsSortedOf : List Span → List Numbered → Type 0
IsSortedOf spans items =
    IsPermutation (occupied spans) (sorted_spans items)
    × IsNonDecreasingBy (λ span. span.start) (sorted_spans items)

-- so are these, or without them all spans come by their starts
abbrev pub IsByStart : List Span → Option (List Numbered) → Type 0
IsByStart spans None = ComeByStart spans
IsByStart spans (Some items) = IsSortedOf spans items

-- The gaps are between the spans of an image. These were passed sorted, or without such a
-- list in their order.
abbrev pub ArePassedBy : List ℕ → List Span → Gaps → Option (List Numbered) → Type 0
ArePassedBy image spans gaps None = ArePassed wanted.NonZero image spans gaps
ArePassedBy image spans gaps (Some items) =
    IsSortedOf spans items × ArePassed wanted.NonZero image (sorted_spans items) gaps
