-- The segments of an image, their names, and which of them is the first with the name of an earlier one.
use Rattle.std.proofs.Common.{◌≡◌, ◌↔◌, ℕ, ◌+◌, ◌<◌, ◌⊎◌, List, [], ◌∷◌, map, slice_index, Contains, Option, None, Some, refl, sym, ap, ◌∙◌, subst, inl, inr}
use Rattle.std.specs.List.{find}
use Rattle.std.specs.Option.{option_map}
use Rattle.std.proofs.lemmas.Bool.{cases_Bool}
use Rattle.macho_fields.specs.FirstPlace.{IsLeastPlace}
use Rattle.macho_fields.specs.Segment.{all_segments, shows_start}
use Rattle.macho_image.specs.Segment.{SegmentView, segment_at, segment_name}
use Rattle.macho_rules.proofs.Searches.{any_of, one_of}
use Rattle.macho_tables.proofs.Places.{least_same}
use Rattle.macho_tables.proofs.SafeBases.{shows}
use Rattle.macho_readers.specs.Segments.{HasEarlierName, IsMisnamedBut, BreaksSegmentName}
use Rattle.macho_readers.specs.Names.{number_of}
use Rattle.macho_readers.proofs.NameNumbers.{same_short}
use Rattle.macho_readers.proofs.SameNames.{RepeatsListed}

-- the segment that shows the start of the file

place_mapped : (image places : List ℕ) → option_map (λ (s : SegmentView). s.place) (find shows (map (segment_at image) places)) ≡ find (shows_start image) places
place_mapped image [] = refl
place_mapped image (place ∷ places) = elim (cases_Bool (shows_start image place)) [ inl t ↦ rw t refl | inr f ↦ rw f (place_mapped image places) ]

same_place : (found : Option SegmentView) → option_map (λ (s : SegmentView). s.place) found ≡ option_map (λ (s : SegmentView). s.place) (option_map (λ (s : SegmentView). s) found)
same_place None = refl
same_place (Some s) = refl

pub base_place : (image : List ℕ) (all : List SegmentView) → all ≡ map (segment_at image) (all_segments image) → (found : Option SegmentView) → option_map (λ s. s) found ≡ find shows all
    → option_map (λ (s : SegmentView). s.place) found ≡ find (shows_start image) (all_segments image)
base_place image all are found is =
    same_place found ∙ (ap (option_map (λ (s : SegmentView). s.place)) (is ∙ ap (find shows) are) ∙ place_mapped image (all_segments image))

-- the numbers of the names of a segment, which are one, and its place
abbrev pub named : List ℕ → ℕ → ℕ × ℕ × ℕ
named image segment = (number_of (segment_name image segment), 0, segment)

pub mapped_names : (image places : List ℕ) → map (λ (s : SegmentView). named s.image s.place) (map (segment_at image) places) ≡ map (named image) places
mapped_names image [] = refl
mapped_names image (p ∷ ps) = ap (λ rest. named image p ∷ rest) (mapped_names image ps)

module _ (image : List ℕ) where
  abbrev pub Repeats : ℕ → Type 0
  Repeats place = Contains (all_segments image) place × HasEarlierName image place

  module _ (fits : (k : ℕ) → slice_index image k < 256) where
    to : (place : ℕ) → RepeatsListed (named image) (all_segments image) place → Repeats place
    to place (one, earlier, has, has_earlier, same, _, less, is) =
        subst Repeats (sym is) (has, any_of (λ e. (e < one) × (segment_name image e ≡ segment_name image one)) (all_segments image) earlier has_earlier (less, same_short image fits (earlier + 8) (one + 8) same))

    from : (place : ℕ) → Repeats place → RepeatsListed (named image) (all_segments image) place
    from place (has, any) =
        let (earlier, has_earlier, (less, same)) = one_of (λ e. (e < place) × (segment_name image e ≡ segment_name image place)) (all_segments image) any in
        (place, earlier, has, has_earlier, ap number_of same, refl, less, refl)

    pub segments_repeat : (found : Option ℕ) → IsLeastPlace (RepeatsListed (named image) (all_segments image)) found → IsLeastPlace Repeats found
    segments_repeat found = least_same (RepeatsListed (named image) (all_segments image)) Repeats found (λ place. (to place, from place))

  abbrev pub Misnamed : ℕ → Type 0
  Misnamed place = Contains (all_segments image) place × IsMisnamedBut (find (shows_start image) (all_segments image)) image place

  -- the two parts of the rule
  pub both : (place : ℕ) → (Misnamed place ⊎ Repeats place) ↔ BreaksSegmentName image place
  both place = (
    λ either. elim either [
      | inl one ↦ (one.0, elim one.1 [ inl tail ↦ inl tail | inr alone ↦ inr (inr alone) ])
      | inr other ↦ (other.0, inr (inl other.1))
    ],
    λ broken. elim broken.1 [
      | inl tail ↦ inl (broken.0, inl tail)
      | inr rest ↦ elim rest [ inl earlier ↦ inr (broken.0, earlier) | inr alone ↦ inl (broken.0, inr alone) ]
    ],
  )
