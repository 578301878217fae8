-- A walk over the segments of an image, one after the other.
use Rattle.std.proofs.Common.{◌≡◌, ℕ, zero, suc, ◌+◌, List, [], ◌∷◌, ◌++◌, length, map, get_or, slice_get, Contains, Some, refl, sym, ap, ◌∙◌, subst, arith, length-append}
use Rattle.std.proofs.lemmas.List.{length-map}
use Rattle.std.proofs.lemmas.List.Elements.{Contains-get_or}
use Rattle.std.proofs.lemmas.Option.{same_Some}
use Rattle.macho_fields.specs.Segment.{all_segments}
use Rattle.macho_image.specs.Segment.{SegmentView, segment_at}
use Rattle.macho_rules.proofs.Surveys.{walked, walked_on, walked_all}

-- so many segments were passed
pub record ArePassed (all left : List SegmentView) (index : ℕ) : Type 0 where
  pub seen : List SegmentView
  pub reached : all ≡ seen ++ left
  pub at : index ≡ length seen

pub passed_none : (all : List SegmentView) → ArePassed all all 0
passed_none all = record { seen = []; reached = refl; at = refl }

pub passed_more : (all left : List SegmentView) (index : ℕ) → ArePassed all left index → (s : SegmentView) (rest : List SegmentView) → left ≡ s ∷ rest → ArePassed all rest (index + 1)
passed_more all left index passed s rest next = record {
  seen = passed.seen ++ s ∷ [];
  reached = walked_on all passed.seen left s rest passed.reached next;
  at = let size = length-append passed.seen (s ∷ []) in let at = passed.at in omega (arith, size, at);
}

-- the segment with an index
segment_here : (image places : List ℕ) (k : ℕ) (s : SegmentView) → slice_get (map (segment_at image) places) k ≡ Some s → segment_at image (get_or places k 0) ≡ s
segment_here image [] k s is = absurd (cc)
segment_here image (place ∷ places) zero s is = same_Some _ _ is
segment_here image (place ∷ places) (suc k) s is = segment_here image places k s is

get_seam : {X : Type 0} (xs : List X) (x : X) (ys : List X) → slice_get (xs ++ x ∷ ys) (length xs) ≡ Some x
get_seam [] x ys = refl
get_seam (z ∷ zs) x ys = get_seam zs x ys

module _ (image : List ℕ) (all left : List SegmentView) (index : ℕ) (are : all ≡ map (segment_at image) (all_segments image)) (passed : ArePassed all left index) where
  all_count : length all ≡ length (all_segments image)
  all_count = ap length are ∙ length-map (all_segments image) (segment_at image)

  -- the next one
  module _ (s : SegmentView) (rest : List SegmentView) (next : left ≡ s ∷ rest) where
    pub is_segment : segment_at image (get_or (all_segments image) index 0) ≡ s
    is_segment =
        segment_here image (all_segments image) index s
        (ap (λ (these : List SegmentView). slice_get these index) (sym are ∙ walked all passed.seen left s rest passed.reached next)
        ∙ (ap (slice_get (passed.seen ++ s ∷ rest)) passed.at ∙ get_seam passed.seen s rest))

    pub its_image : s.image ≡ image
    its_image = sym (ap (λ (t : SegmentView). t.image) is_segment)

    pub its_place : get_or (all_segments image) index 0 ≡ s.place
    its_place = ap (λ (t : SegmentView). t.place) is_segment

    pub segment_listed : Contains (all_segments image) s.place
    segment_listed =
        let whole = ap length (walked all passed.seen left s rest passed.reached next) in
        let size = length-append passed.seen (s ∷ rest) in
        let at = passed.at in
        let count = all_count in
        subst (Contains (all_segments image)) its_place (Contains-get_or (all_segments image) index 0 (omega (arith, whole, size, at, count)))

  -- all were passed
  pub passed_all : left ≡ [] → index ≡ length (all_segments image)
  passed_all ended =
      let same = ap length (walked_all all passed.seen left passed.reached ended) in
      let at = passed.at in
      let count = all_count in
      omega (arith, same, at, count)
