-- The starts of the segments, one after the other.
use Rattle.std.proofs.Common.{◌≡◌, ◌≢◌, ℕ, suc, ◌+◌, ◌≤◌, ◌<◌, List, [], ◌∷◌, length, map, get_or, Option, Some, None, refl, sym, subst, arith, add-one, inl, inr}
use Rattle.std.specs.Prelude.{IfSome, IsSomeAnd}
use Rattle.std.proofs.lemmas.Bool.{cases_lt, eq-eqb}
use Rattle.macho_fields.specs.Image.{commands_of}
use Rattle.macho_fields.specs.Segment.{all_segments, base_of}
use Rattle.macho_image.specs.Segment.{SegmentView, segment_at}
use Rattle.macho_chains.specs.ChainStarts.{seg_info_offset, starts_of, starts_end, StartsEndBy, IsReach, AreOf, HasBadStarts, HasBadEntries}
use Rattle.macho_tables.specs.Items.{IsFirstItem}
use Rattle.macho_chains.specs.declared.chain_header.ChainHeader.{ChainHeader}
use Rattle.macho_chains.specs.declared.chain_starts.SegmentStarts.{SegmentStarts}
use Rattle.macho_tables.proofs.SegmentWalks.{ArePassed, passed_more, passed_all}

module _ (chains : List ℕ) (header : ChainHeader) where
  -- those that an entry names
  pub starts_unnamed : (k : ℕ) → seg_info_offset chains header k ≡ 0 → starts_of chains header k ≡ None
  starts_unnamed k none = rw (eq-eqb (seg_info_offset chains header k) 0 none) refl

  -- How far they reach

  pub reach_none : IsReach chains header 0 0
  reach_none offset = (λ low j less. absurd (omega arith), λ by. omega arith)

  -- a segment without starts reaches no farther
  pub reach_same : (k reach : ℕ) → starts_of chains header k ≡ None → IsReach chains header k reach → IsReach chains header (suc k) reach
  reach_same k reach none before offset = (
    λ low j less. elim (cases_lt j k) [
      | inl early ↦ (before offset).0 low j early
      | inr late ↦ let here : j ≡ k = omega arith in rw (here, none) tt
    ],
    λ by. (before offset).1 (λ j less. by j (omega arith)),
  )

  -- and those that begin past the others reach up to their own end
  pub reach_more : (k reach : ℕ) (starts : SegmentStarts) → starts_of chains header k ≡ Some starts → reach ≤ starts.offset → IsReach chains header k reach
      → IsReach chains header (suc k) (starts_end starts)
  reach_more k reach starts is past before offset = (
    λ low j less. elim (cases_lt j k) [
      | inl early ↦ (before offset).0 (omega arith) j early
      | inr late ↦ let here : j ≡ k = omega arith in rw (here, is) low
    ],
    λ by. subst (λ (found : Option SegmentStarts). IfSome found (λ s. starts_end s ≤ offset)) is (by k (omega arith)),
  )

  -- What is bad

  module _ (image : List ℕ) (k : ℕ) where
    abbrev pub AreGood : SegmentStarts → Type 0
    AreGood starts = AreOf (base_of image (commands_of image)) image (get_or (all_segments image) k 0) starts × StartsEndBy chains header k starts.offset

    pub good_unnamed : seg_info_offset chains header k ≡ 0 → ¬ HasBadStarts image chains header k
    good_unnamed none bad = bad.0 none

    pub bad_unread : seg_info_offset chains header k ≢ 0 → starts_of chains header k ≡ None → HasBadStarts image chains header k
    bad_unread some none = (some, λ good. subst (λ (found : Option SegmentStarts). IsSomeAnd found AreGood) none good)

    module _ (starts : SegmentStarts) (is : starts_of chains header k ≡ Some starts) where
      pub bad_read : seg_info_offset chains header k ≢ 0 → ¬ AreGood starts → HasBadStarts image chains header k
      bad_read some bad = (some, λ good. bad (subst (λ (found : Option SegmentStarts). IsSomeAnd found AreGood) is good))

      pub good_read : AreGood starts → ¬ HasBadStarts image chains header k
      good_read good bad = bad.1 (subst (λ (found : Option SegmentStarts). IsSomeAnd found AreGood) (sym is) good)

    -- a segment whose starts begin past the others, and that is at its place
    module _ (base : Option ℕ) (place reach : ℕ) (from : base ≡ base_of image (commands_of image)) (at : get_or (all_segments image) k 0 ≡ place)
        (before : IsReach chains header k reach) (starts : SegmentStarts) (is : starts_of chains header k ≡ Some starts) where
      its_own : AreOf base image place starts → AreOf (base_of image (commands_of image)) image (get_or (all_segments image) k 0) starts
      its_own are = rw at (subst (λ (b : Option ℕ). AreOf b image place starts) from are)

      pub starts_good : AreOf base image place starts → reach ≤ starts.offset
          → (¬ HasBadStarts image chains header k) × IsReach chains header (suc k) (starts_end starts)
      starts_good are past = (good_read starts is (its_own are, (before starts.offset).0 past), reach_more k reach starts is past before)

      pub starts_not_own : seg_info_offset chains header k ≢ 0 → ¬ AreOf base image place starts → HasBadStarts image chains header k
      starts_not_own some other = bad_read starts is some (λ good. other (subst (λ (b : Option ℕ). AreOf b image place starts) (sym from) (rw at at good.0)))

      pub starts_early : seg_info_offset chains header k ≢ 0 → starts.offset < reach → HasBadStarts image chains header k
      starts_early some early = bad_read starts is some (λ good. let past = (before starts.offset).1 good.1 in absurd (omega arith))

-- A walk over the segments

-- where it has come: no starts of the segments that were passed are bad
pub record AreWalked (image chains : List ℕ) (header : ChainHeader) (all left : List SegmentView) (count index far : ℕ) : Type 0 where
  pub passed : ArePassed all left index
  pub few : index ≤ count
  pub good : (k : ℕ) → k < index → ¬ HasBadStarts image chains header k
  pub reach : IsReach chains header index far

module _ (image chains : List ℕ) (header : ChainHeader) (all left : List SegmentView) (count index reach : ℕ) (walk : AreWalked image chains header all left count index reach) where
  -- the next segment
  pub starts_more : (s : SegmentView) (rest : List SegmentView) → left ≡ s ∷ rest → (past : ℕ) → index < count → ¬ HasBadStarts image chains header index → IsReach chains header (suc index) past
      → AreWalked image chains header all rest count (index + 1) past
  starts_more s rest next past less good on = record {
    passed = passed_more all left index walk.passed s rest next;
    few = omega arith;
    good = λ k before. elim (cases_lt k index) [ inl early ↦ walk.good k early | inr late ↦ let here : k ≡ index = omega arith in rw here good ];
    reach = subst (λ n. IsReach chains header n past) (sym (add-one index)) on;
  }

  -- a segment with bad starts is the first
  pub starts_bad : index < count → HasBadStarts image chains header index → IsFirstItem count (HasBadStarts image chains header) (Some index)
  starts_bad less bad = (less, bad, walk.good)

  -- where the walk has passed all that have an entry, none is bad
  pub starts_passed : count ≤ index → IsFirstItem count (HasBadStarts image chains header) None
  starts_passed all_passed k less = walk.good k (omega arith)

-- it has at the last segment
pub entries_passed : (image chains : List ℕ) (header : ChainHeader) (all left : List SegmentView) (count index : ℕ) → all ≡ map (segment_at image) (all_segments image) → ArePassed all left index
    → left ≡ [] → ¬ HasBadEntries image chains header count → count ≤ index
entries_passed image chains header all left count index are passed ended entries =
    let at = passed_all image all left index are passed ended in
    elim (cases_lt (length (all_segments image)) count) [ inl more ↦ absurd (entries (inl more)) | inr few ↦ omega (arith, at, few) ]
