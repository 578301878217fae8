-- The elements of an image that share bytes with one before them, or end past the image.
use Rattle.std.specs.Prelude.{◌≡◌, ℕ, ◌^◌, ◌<◌, ◌⊎◌, List, Some, length, slice_get}
use Rattle.macho_spans.specs.Span.{Shares}
use Rattle.macho_spans.specs.declared.span.Span.{Span}
use Rattle.macho_strict.specs.Elements.{elements_of}
use Rattle.macho_strict.specs.Rules.{EndsPast}
use Rattle.macho_strict.specs.declared.elements.Element.{Element}
use Rattle.macho_explain.specs.Wholes.{Opens}

-- one of the first elements, so many, shares bytes with the span
abbrev pub SharesBefore : List ℕ → ℕ → Span → Type 0
SharesBefore image k span =
    (j : ℕ) × (earlier : Element) × (j < k) × (slice_get (elements_of image) j ≡ Some earlier) × Shares span earlier.span

-- the element k shares bytes with an earlier one, or ends past the image
abbrev pub IsConflicting : List ℕ → ℕ → Element → Type 0
IsConflicting image k element = SharesBefore image k element.span ⊎ EndsPast image element

-- the structure at the place describes a conflicting element
abbrev pub HasConflicting : List ℕ → ℕ → Type 0
HasConflicting image place =
    (k : ℕ) × (element : Element) × (slice_get (elements_of image) k ≡ Some element)
    × (element.described ≡ place) × IsConflicting image k element

-- the elements can be counted
abbrev pub AreFew : List ℕ → Type 0
AreFew image = length (elements_of image) < 2 ^ 64

-- the image has so few elements that they can be counted, and a conflicting one
abbrev pub HasOverlap : List ℕ → ℕ → Type 0
HasOverlap image place = Opens image × AreFew image × HasConflicting image place
