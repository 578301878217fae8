-- The places of the segments of an image, one after the other.
use Rattle.std.proofs.Common.{◌≡◌, ℕ, List, [], ◌∷◌, ◌++◌, map, refl, ap}
use Rattle.macho_image.specs.Segment.{SegmentView, segment_at}

abbrev pub places_of : List SegmentView → List ℕ
places_of segments = map (λ (s : SegmentView). s.place) segments

pub seam : (xs : List ℕ) (x : ℕ) (ys : List ℕ) → (xs ++ x ∷ []) ++ ys ≡ xs ++ x ∷ ys
seam [] x ys = refl
seam (z ∷ zs) x ys = ap (λ (rest : List ℕ). z ∷ rest) (seam zs x ys)

pub no_more : (xs : List ℕ) → xs ++ [] ≡ xs
no_more [] = refl
no_more (x ∷ xs) = ap (λ (rest : List ℕ). x ∷ rest) (no_more xs)

pub places_back : (image : List ℕ) (places : List ℕ) → places_of (map (segment_at image) places) ≡ places
places_back image [] = refl
places_back image (place ∷ places) = ap (λ (rest : List ℕ). place ∷ rest) (places_back image places)
