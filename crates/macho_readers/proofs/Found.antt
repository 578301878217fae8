-- What `find` returns over the segments of an opened image, and over its sections.
use Rattle.std.proofs.Common.{◌≡◌, ◌↔◌, ℕ, ◌≤◌, ◌<◌, List, length, get_or, Contains, Bool, true, false, Option, None, Some, IsTrue, MatchOption, refl, sym, ap, ◌∙◌, subst, le_refl, arith, inl, inr}
use denote.Ref.{Bor}
use Rattle.std.specs.Fn.{Mut, Called, CalledAt}
use Rattle.std.specs.Iterator.{YieldsFirst, FindsItem}
use Rattle.std.specs.List.{AllWithin, HoldsAt}
use Rattle.std.specs.Option.{option_map}
use Rattle.std.proofs.lemmas.Bool.{cases_order, false≢true}
use Rattle.std.proofs.lemmas.Iterator.{YieldsList, first_from_find}
use Rattle.std.proofs.lemmas.Iterator.Consumers.{YieldsList-from_first}
use Rattle.macho_fields.specs.FirstPlace.{IsLeastPlace}
use Rattle.macho_fields.specs.Segment.{all_segments}
use Rattle.macho_fields.proofs.FirstPlaces.{AreBreaks}
use Rattle.macho_image.specs.Opened.{IsOpened}
use Rattle.macho_image.specs.Segment.{SegmentView, segment_at}
use Rattle.macho_rules.proofs.Searches.{Rising, are_breaks_at, ordered_at, ordered_map}
use Rattle.macho_rules.proofs.SegmentItems.{AreSegments, segments_rise}

-- The first item with P, of items whose places do not fall, is at the least place

module _ {X : Type 0} (place : X → ℕ) (P : X → Type 0) (breaks : ℕ → Type 0) (all : List X) (are : AreBreaks breaks place P all) (rise : Rising place all) where
  -- what a search for it finds
  abbrev pub IsFound : Option X → Type 0
  IsFound r = MatchOption r (AllWithin (λ x. ¬ P x) all 0 (length all)) (λ x. P x × (i : ℕ) × (i < length all) × HoldsAt (λ y. y ≡ x) all i × AllWithin (λ y. ¬ P y) all 0 i)

  pub least_found : (r : Option X) → IsFound r → IsLeastPlace breaks (option_map place r)
  least_found None none = λ p broken. nowhere p (are.only p broken)
    where
      nowhere : (p : ℕ) → (x : X) × Contains all x × P x × (place x ≡ p) → ⊥
      nowhere p (x, (k, within, is), here, at) = none k x (omega arith) within (subst P (sym is) here)
  least_found (Some x) (here, i, less, at, none) = (are.broken x (i, less, at x) here, λ p broken. least p (are.only p broken))
    where
      least : (p : ℕ) → (y : X) × Contains all y × P y × (place y ≡ p) → place x ≤ p
      least p (y, (k, within, is), has, there) = elim (cases_order k i) [
        | inl same ↦
            let one : x ≡ y = sym (at y) ∙ (ap (λ j. get_or all j y) (sym same) ∙ is) in
            subst (λ q. place x ≤ q) (ap place one ∙ there) (le_refl (place x))
        | inr (inl before) ↦ absurd (none k y (omega arith) before (subst P (sym is) has))
        | inr (inr after) ↦
            let up = ordered_at (λ a b. place a ≤ place b) all y i k rise after within in
            subst (λ q. place x ≤ q) there (subst (λ z. place x ≤ place z) is (subst (λ z. place z ≤ place (get_or all k y)) (at y) up))
      ]

-- Segments

module _ (image : List ℕ) (opened : IsOpened image) {all : List SegmentView} (are : AreSegments image all) where
  pub segments_rising : Rising (λ s. s.place) all
  segments_rising = subst (Rising (λ (s : SegmentView). s.place)) (sym are) (ordered_map (λ (s t : SegmentView). s.place ≤ t.place) (segment_at image) (all_segments image) (segments_rise image opened))

  segments_break : (P : List ℕ → ℕ → Type 0) → AreBreaks (λ p. Contains (all_segments image) p × P image p) (λ s. s.place) (λ s. P s.image s.place) all
  segments_break P =
      subst (AreBreaks (λ p. Contains (all_segments image) p × P image p) (λ s. s.place) (λ s. P s.image s.place)) (sym are)
      (are_breaks_at (λ p. Contains (all_segments image) p × P image p) (λ (s : SegmentView). s.place) (λ s. P s.image s.place) (segment_at image) (all_segments image)
      (λ p has here. (has, here)) (λ p broken. (p, broken.0, broken.1, refl)))

  yields : YieldsList (YieldsFirst (λ (left : List SegmentView). left)) (λ s. s) all all
  yields = YieldsList-from_first (λ (s : SegmentView). s) (λ (left : List SegmentView). left) all refl

  pub first_segment : {F : Type 0} {g : Mut F (Bor SegmentView × Unit {0}) Bool} {f : F} (u : List SegmentView) (P : List ℕ → ℕ → Type 0) (r : Option SegmentView)
      → FindsItem (YieldsFirst (λ (left : List SegmentView). left)) g all f r u
      → ((y : Bor SegmentView) (b : Bool) (q : F) → Called g f (y, tt) b q → (q ≡ f) × (IsTrue b ↔ P y.now.image y.now.place))
      → IsLeastPlace (λ place. Contains (all_segments image) place × P image place) (option_map (λ (s : SegmentView). s.place) r)
  first_segment {F = F} {g = g} {f = f} u P r ran says =
      least_found (λ (s : SegmentView). s.place) (λ (s : SegmentView). P s.image s.place) (λ place. Contains (all_segments image) place × P image place) all (segments_break P) segments_rising r
      (first_from_find _ _ r (λ (s : SegmentView). P s.image s.place) (λ (s : SegmentView). ¬ P s.image s.place) ran yields (λ s q k. (at s true q k).1.0 refl) (λ s q k. let (same, is) = at s false q k in (same, λ has. false≢true (is.1 has))))
    where
      at : (s : SegmentView) (b : Bool) (q : F) → CalledAt g f s b q → (q ≡ f) × (IsTrue b ↔ P s.image s.place)
      at s b q k = let (same, is) = says k.shown b q k.called in (same, subst (λ (y : SegmentView). IsTrue b ↔ P y.image y.place) k.shows is)
