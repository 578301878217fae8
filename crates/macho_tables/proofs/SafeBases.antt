-- The segment that has the base of an image, and whether the base is safe.
use Rattle.std.proofs.Common.{◌≡◌, ◌↔◌, ℕ, List, [], ◌∷◌, map, IsTrue, Bool, Option, Some, None, refl, ap, ◌∙◌, subst, inl, inr}
use Rattle.std.specs.Prelude.{IsSomeAnd}
use Rattle.std.specs.List.{find}
use Rattle.std.specs.Option.{option_map}
use Rattle.std.proofs.lemmas.Bool.{cases_Bool}
use Rattle.macho_fields.specs.Segment.{all_segments, shows_start}
use Rattle.macho_image.specs.Segment.{SegmentView, segment_at}
use Rattle.macho_rules.proofs.SegmentItems.{AreSegments}
use Rattle.macho_tables.specs.Homes.{IsSafeBase, HasSafeBase}

abbrev pub shows : SegmentView → Bool
shows s = shows_start s.image s.place

find_mapped : (image places : List ℕ) → find shows (map (segment_at image) places) ≡ option_map (segment_at image) (find (shows_start image) places)
find_mapped image [] = refl
find_mapped image (place ∷ places) = elim (cases_Bool (shows_start image place)) [ inl t ↦ rw t refl | inr f ↦ rw f (find_mapped image places) ]

module _ (image : List ℕ) (all : List SegmentView) (are : AreSegments image all) where
  base_is : (base : Option SegmentView) → option_map (λ s. s) base ≡ find shows all → option_map (λ s. s) base ≡ option_map (segment_at image) (find (shows_start image) (all_segments image))
  base_is base is = is ∙ (ap (find shows) are ∙ find_mapped image (all_segments image))

  -- a segment with the base was found
  module _ (s : SegmentView) (is : Some s ≡ find shows all) where
    -- it is one of the image
    pub base_image : s.image ≡ image
    base_image = judged (find (shows_start image) (all_segments image)) (base_is (Some s) is)
      where
        judged : (base : Option ℕ) → Some s ≡ option_map (segment_at image) base → s.image ≡ image
        judged None wrong = absurd (cc)
        judged (Some place) at =
            let segment : s ≡ segment_at image place = cc in ap (λ (t : SegmentView). t.image) segment

    pub base_found : (safe : Bool) → IsTrue safe ↔ IsSafeBase s.image s.place → IsTrue safe ↔ HasSafeBase image
    base_found safe same = judged (find (shows_start image) (all_segments image)) (base_is (Some s) is)
      where
        judged : (base : Option ℕ) → Some s ≡ option_map (segment_at image) base → IsTrue safe ↔ IsSomeAnd base (IsSafeBase image)
        judged None wrong = absurd (cc)
        judged (Some place) at =
            let segment : s ≡ segment_at image place = cc in
            subst (λ (t : SegmentView). IsTrue safe ↔ IsSafeBase t.image t.place) segment same

  -- none was
  pub base_missing : ◌≡◌ {A = Option SegmentView} None (find shows all) → HasSafeBase image → ⊥
  base_missing none = missing (find (shows_start image) (all_segments image)) (base_is None none)
    where
      missing : (base : Option ℕ) → ◌≡◌ {A = Option SegmentView} None (option_map (segment_at image) base) → IsSomeAnd base (IsSafeBase image) → ⊥
      missing None is safe = safe
      missing (Some place) is safe = cc
